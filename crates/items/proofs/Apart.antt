-- Recorded visibilities of which no two are alike.
use Rattle.std.proofs.Common.{◌≡◌, ℕ, ◌<◌, true, false, List, [], ◌∷◌, ◌++◌, length, Ok, Err, Result, IfOk, ap, ◌∙◌, MatchResult}
use Rattle.syntax.specs.declared.refusal.Refusal.{Refusal}
use Rattle.syntax.specs.declared.refusal.Refusal.TheVariants.{TableFull}
use Rattle.tables.specs.Held.{held}
use Rattle.tables.specs.Insertion.{KeyInserted}
use Rattle.tables.specs.Sets.{distinct, has}
use Rattle.tables.specs.declared.table.Table.{Table}
use Rattle.tables.proofs.Rows.{length-held-le}
use Rattle.tables.proofs.Sets.{distinct_push, place-below}
use Rattle.items.specs.Recorded.{RoomFor, same_visibility, visibility_equivalence}
use Rattle.items.specs.declared.visibility.RawVisibility.{RawVisibility}

pub apart_none : (xs : List RawVisibility) → xs ≡ [] → distinct same_visibility xs ≡ true
unfolding distinct
apart_none xs e = ap (distinct same_visibility) e

pub apart_pushed : (r : Result ℕ Refusal) (old new : List RawVisibility) (v : RawVisibility)
    → MatchResult r (λ index. (index ≡ length old) × (index < 128) × (new ≡ old ++ v ∷ [])) (λ e. (e ≡ TableFull) × (length old ≡ 128) × (new ≡ old))
    → has same_visibility old v ≡ false → distinct same_visibility old ≡ true → distinct same_visibility new ≡ true
apart_pushed (Ok i) old new v h absent d = ap (distinct same_visibility) h.2 ∙ distinct_push same_visibility old v visibility_equivalence absent d
apart_pushed (Err e) old new v h absent d = ap (distinct same_visibility) h.2 ∙ d

-- a number that is answered is below 128
pub below_limit : (rows : Table RawVisibility 128) (v : RawVisibility) (r : Result ℕ Refusal) (new : List RawVisibility)
    → KeyInserted same_visibility (RoomFor (held rows) v) (held rows) v r new → IfOk r (λ i. i < 128)
below_limit rows v (Ok i) new h = place-below same_visibility 128 (held rows) v i h.1 (length-held-le rows) h.0
below_limit rows v (Err e) new h = tt
