-- What an insertion answers where a key alike is found, and where one is appended.
use Rattle.std.proofs.Common.{◌≡◌, ℕ, ◌<◌, ◌≤◌, ◌⊎◌, inl, inr, ⊎_elim, Bool, true, false, List, Ok, Err, Result, sym, ap, ◌∙◌, arith}
use Rattle.syntax.specs.declared.refusal.Refusal.{Refusal}
use Rattle.tables.specs.Insertion.{Appended, Found, KeyInserted}
use Rattle.tables.specs.Sets.{has, place}
use Rattle.tables.proofs.Sets.{two_ways, inserted-held, inserted_new, place-new}

module _ {K : Type 0} (same : K → K → Bool) (room : Type 0) (xs : List K) (k : K) where
  pub insertion_found : (i : ℕ) → has same xs k ≡ true → i ≡ place same xs k → KeyInserted same room xs k (Ok i) xs
  insertion_found i h e = (λ n. two_ways (sym h ∙ n), e, sym (inserted-held same xs k h))

  pub insertion_appended : (r : Result ℕ Refusal) (ys : List K) → has same xs k ≡ false → Appended room xs k r ys → KeyInserted same room xs k r ys
  insertion_appended (Ok i) ys h a = (λ _. a.0, a.1 ∙ sym (place-new same xs k h), a.2 ∙ sym (inserted_new same xs k h))
  insertion_appended (Err e) ys h a = ((h, a.0), a.1, a.2)

-- what appending keeps is kept
pub inserted_kept : {T X A : Type 0} {n : ℕ} {r : Result ℕ Refusal} {old new : T} (f : T → X) → Found n r old new ⊎ A → (A → f new ≡ f old) → f new ≡ f old
inserted_kept f h g = ⊎_elim (λ found. ap f found.3) g h

-- the index is below a bound of the keys and of what appending answers
pub inserted_below : {T A : Type 0} {n i : ℕ} {old new : T} (m : ℕ) → Found n (Ok i) old new ⊎ A → n ≤ m → (A → i < m) → i < m
inserted_below {i = i} m (inl found) h g = let same : i ≡ found.0 = let e = found.2 in cc in omega (arith, found.1)
inserted_below m (inr added) h g = g added
