-- What an insertion into an index set does.
use Rattle.std.specs.Prelude.{◌≡◌, ℕ, ◌<◌, ◌⊎◌, Bool, false, List, [], ◌∷◌, ◌++◌, length, Result, Ok, MatchResult}
use Rattle.syntax.specs.declared.refusal.Refusal.{Refusal}
use Rattle.syntax.specs.declared.refusal.Refusal.TheVariants.{TableFull}
use Rattle.tables.specs.Sets.{has, place, inserted}

-- one of n keys is answered, and the table stays
abbrev pub Found : {T : Type 0} → ℕ → Result ℕ Refusal → T → T → Type 0
Found n r old new = (i : ℕ) × (i < n) × (r ≡ Ok i) × (new ≡ old)

-- a key that is there is answered, or the key is appended
abbrev pub Inserted : {T K : Type 0} → (T → ℕ) → (T → K → Result ℕ Refusal → T → Type 0) → T → K → Result ℕ Refusal → T → Type 0
Inserted count appends old key r new = Found (count old) r old new ⊎ appends old key r new

-- a key goes to the end where it has room, and is refused exactly where it has none
abbrev pub Appended : {K : Type 0} → Type 0 → List K → K → Result ℕ Refusal → List K → Type 0
Appended room old k r new =
    MatchResult r
    (λ i. room × (i ≡ length old) × (new ≡ old ++ k ∷ []))
    (λ e. (room → ⊥) × (e ≡ TableFull) × (new ≡ old))

-- the place of the key is answered, which is at the end where none is alike; it is refused exactly where none is alike and it has no room
abbrev pub KeyInserted : {K : Type 0} → (K → K → Bool) → Type 0 → List K → K → Result ℕ Refusal → List K → Type 0
KeyInserted same room old k r new =
    MatchResult r
    (λ i. (has same old k ≡ false → room) × (i ≡ place same old k) × (new ≡ inserted same old k))
    (λ e. ((has same old k ≡ false) × (room → ⊥)) × (e ≡ TableFull) × (new ≡ old))
