-- Keys in the order in which they came first, no two alike.
use Rattle.std.specs.Prelude.{◌≡◌, ℕ, suc, Bool, true, false, cond, List, [], ◌∷◌, ◌++◌, Some, None, Option}
use Rattle.std.proofs.Common.{sym, ap, ◌∙◌}

-- what a comparison of keys has to be
pub record Equivalence {K : Type 0} (same : K → K → Bool) : Type 0 where
  pub reflexive : (x : K) → same x x ≡ true
  pub symmetric : (x y : K) → same x y ≡ true → same y x ≡ true
  pub transitive : (x y z : K) → same x y ≡ true → same y z ≡ true → same x z ≡ true

-- a comparison under which only equal keys are alike
pub record Equality {K : Type 0} (same : K → K → Bool) : Type 0 where
  pub itself : (x : K) → same x x ≡ true
  pub only : (x y : K) → same x y ≡ true → x ≡ y

pub equality_equivalence : {K : Type 0} {same : K → K → Bool} → Equality same → Equivalence same
equality_equivalence {same = same} q = record {
  reflexive = q.itself;
  symmetric = λ x y e. ap (λ z. same z x) (sym (q.only x y e)) ∙ q.itself x;
  transitive = λ x y z e f. ap (λ w. same w z) (q.only x y e) ∙ f;
}

-- whether a key alike is held
unfoldable pub has : {K : Type 0} → (K → K → Bool) → List K → K → Bool
has same [] k = false
has same (x ∷ xs) k = cond (same x k) true (has same xs k)

-- where the first key alike stands, or where the keys end
unfoldable pub place : {K : Type 0} → (K → K → Bool) → List K → K → ℕ
place same [] k = 0
place same (x ∷ xs) k = cond (same x k) 0 (suc (place same xs k))

-- a key that is new goes to the end
unfoldable pub inserted : {K : Type 0} → (K → K → Bool) → List K → K → List K
inserted same xs k = cond (has same xs k) xs (xs ++ k ∷ [])

-- no key is alike to one after it
unfoldable pub distinct : {K : Type 0} → (K → K → Bool) → List K → Bool
distinct same [] = true
distinct same (x ∷ xs) = cond (has same xs x) false (distinct same xs)

-- the keys after a run of insertions
unfoldable pub inserts : {K : Type 0} → (K → K → Bool) → List K → List K → List K
inserts same xs [] = xs
inserts same xs (k ∷ ks) = inserts same (inserted same xs k) ks

-- a set that began empty holds what came and nothing else, each once
pub record Runs {K : Type 0} (same : K → K → Bool) (ks : List K) : Type 0 where
  pub apart : distinct same (inserts same [] ks) ≡ true
  pub all : (k : K) → has same ks k ≡ true → has same (inserts same [] ks) k ≡ true
  pub only : (k : K) → has same (inserts same [] ks) k ≡ true → has same ks k ≡ true

-- a key that may be missing, against another
abbrev pub same_at : {K : Type 0} → (K → K → Bool) → Option K → K → Bool
same_at same None k = false
same_at same (Some x) k = same x k
