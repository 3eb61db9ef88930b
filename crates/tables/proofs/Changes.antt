-- Rows that are written behind those that a table holds.
use Rattle.std.proofs.Common.{◌≡◌, ℕ, ◌+◌, ◌-◌, ◌<◌, ◌≤◌, List, ◌++◌, length, take, drop, Ok, Err, Result, sym, ap, ◌∙◌, arith, take-take, length-drop, MatchResult}
use Rattle.std.proofs.lemmas.List.{drop-take, take-append-le, length-take-le}
use Rattle.std.proofs.lemmas.List.Edits.{take-paste}
use Rattle.std.specs.List.{copy_within}
use Rattle.syntax.specs.declared.refusal.Refusal.{Refusal}
use Rattle.syntax.specs.declared.refusal.Refusal.TheVariants.{TableFull}
use lib.Seq.{paste}

-- where they find room, all of the rows are added
pub extended : {X : Type 0} (n : ℕ) (r : Result (Unit {0}) Refusal) (old rows new : List X)
    → MatchResult r (λ _. (length old + length rows ≤ n) × (new ≡ old ++ rows)) (λ e. (e ≡ TableFull) × (n < length old + length rows) × (new ≡ old))
    → length old + length rows ≤ n → new ≡ old ++ rows
extended n (Ok _) old rows new h fits = h.1
extended n (Err e) old rows new h fits = let full = h.1 in absurd (omega arith)

-- what stood before rows that were written at len
pub front_kept : {X : Type 0} (rows now more : List X) (len count m : ℕ) → take (len + count) now ≡ take len rows ++ more → m ≤ len → len ≤ length rows → take m now ≡ take m rows
front_kept rows now more len count m e low inside =
    let l = length-take-le len rows inside in
    sym (take-take m (len + count) now (omega arith)) ∙ ap (take m) e ∙ take-append-le m (take len rows) more (omega arith) ∙ take-take m len rows low

-- a copy of some rows behind the first len, of which they are
pub copied : {X : Type 0} (rows now : List X) (len first count : ℕ) → now ≡ copy_within rows first (first + count) len → first + count ≤ len → len + count ≤ length rows → take (len + count) now ≡ take len rows ++ take count (drop first (take len rows))
copied rows now len first count e low room =
    let d = length-drop first rows in
    let n : first + count - first ≡ count = omega arith in
    let all : len ≡ first + (len - first) = omega arith in
    let part : take count (drop first (take len rows)) ≡ take count (drop first rows) =
    ap (λ k. take count (drop first (take k rows))) all ∙ ap (take count) (drop-take first (len - first) rows) ∙ take-take count (len - first) (drop first rows) (omega arith) in
    ap (take (len + count)) (e ∙ ap (paste rows len (drop first rows)) n) ∙ take-paste rows len (drop first rows) count (omega arith) (omega arith) ∙ ap (λ ys. take len rows ++ ys) (sym part)
