-- What stands at a place of a part of a list.
use Rattle.std.proofs.Common.{◌≡◌, ℕ, zero, suc, ◌+◌, ◌<◌, List, [], ◌∷◌, take, drop, refl, ap, ◌∙◌, arith, drop-drop}
use Rattle.syntax.specs.Meaning.{at, first}

at_take : {X : Type 0} (n : ℕ) (xs : List X) (i : ℕ) → i < n → at (take n xs) i ≡ at xs i
at_take zero xs i h = absurd (omega arith)
at_take (suc n) [] i h = refl
at_take (suc n) (x ∷ xs) zero h = refl
at_take (suc n) (x ∷ xs) (suc i) h = at_take n xs i (omega arith)

pub at_part : {X : Type 0} (xs : List X) (from count i : ℕ) → i < count → at (take count (drop from xs)) i ≡ at xs (from + i)
at_part xs from count i h = at_take count (drop from xs) i h ∙ ap first (drop-drop i from xs)
