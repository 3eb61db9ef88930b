-- Runs of insertions: what came is held, each key once.
use Rattle.std.proofs.Common.{◌≡◌, Bool, true, false, cond, ◌⊎◌, List, [], ◌∷◌, ◌++◌, sym, refl, ap, inl, inr, ⊎_elim}
use Rattle.tables.specs.Sets.{Equivalence, Runs, has, inserted, inserts, distinct}
use Rattle.tables.proofs.Sets.{two_ways, distinct-inserted}

module _ {K : Type 0} (same : K → K → Bool) (q : Equivalence same) where
  -- a key is the first or among the rest
  one_of : (x : K) (xs : List K) (k : K) → has same (x ∷ xs) k ≡ true → (same x k ≡ true) ⊎ (has same xs k ≡ true)
  unfolding has
  one_of x xs k h = by (same x k) h
    where
      by : (b : Bool) → cond b true (has same xs k) ≡ true → (b ≡ true) ⊎ (has same xs k ≡ true)
      by true p = inl refl
      by false p = inr p

  first_of : (x : K) (xs : List K) (k : K) → same x k ≡ true → has same (x ∷ xs) k ≡ true
  unfolding has
  first_of x xs k e = ap (λ b. cond b true (has same xs k)) e

  rest_of : (x : K) (xs : List K) (k : K) → has same xs k ≡ true → has same (x ∷ xs) k ≡ true
  unfolding has
  rest_of x xs k h = by (same x k)
    where
      by : (b : Bool) → cond b true (has same xs k) ≡ true
      by true = refl
      by false = h

  none_of : {A : Type 0} (k : K) → has same [] k ≡ true → A
  unfolding has
  none_of k h = two_ways (sym h)

  has-alike : (xs : List K) (k x : K) → same k x ≡ true → has same xs k ≡ true → has same xs x ≡ true
  has-alike [] k x e h = none_of k h
  has-alike (y ∷ xs) k x e h = ⊎_elim (λ m. first_of y xs x (q.transitive y k x m e)) (λ m. rest_of y xs x (has-alike xs k x e m)) (one_of y xs k h)

  has-front : (xs : List K) (k x : K) → has same xs x ≡ true → has same (xs ++ k ∷ []) x ≡ true
  has-front [] k x h = none_of x h
  has-front (y ∷ xs) k x h = ⊎_elim (λ m. first_of y (xs ++ k ∷ []) x m) (λ m. rest_of y (xs ++ k ∷ []) x (has-front xs k x m)) (one_of y xs x h)

  has_last : (xs : List K) (k : K) → has same (xs ++ k ∷ []) k ≡ true
  has_last [] k = first_of k [] k (q.reflexive k)
  has_last (y ∷ xs) k = rest_of y (xs ++ k ∷ []) k (has_last xs k)

  has_either : (xs : List K) (k x : K) → has same (xs ++ k ∷ []) x ≡ true → (has same xs x ≡ true) ⊎ (same k x ≡ true)
  has_either [] k x h = ⊎_elim inr (λ m. none_of x m) (one_of k [] x h)
  has_either (y ∷ xs) k x h = ⊎_elim (λ m. inl (first_of y xs x m)) (λ m. ⊎_elim (λ n. inl (rest_of y xs x n)) inr (has_either xs k x m)) (one_of y (xs ++ k ∷ []) x h)

  -- ---- one insertion
  kept : (xs : List K) (k x : K) → has same xs x ≡ true → has same (inserted same xs k) x ≡ true
  unfolding inserted
  kept xs k x h = by (has same xs k)
    where
      by : (b : Bool) → has same (cond b xs (xs ++ k ∷ [])) x ≡ true
      by true = h
      by false = has-front xs k x h

  came : (xs : List K) (k : K) → has same (inserted same xs k) k ≡ true
  unfolding inserted
  came xs k = by (has same xs k) refl
    where
      by : (b : Bool) → has same xs k ≡ b → has same (cond b xs (xs ++ k ∷ [])) k ≡ true
      by true e = e
      by false e = has_last xs k

  was : (xs : List K) (k x : K) → has same (inserted same xs k) x ≡ true → (has same xs x ≡ true) ⊎ (same k x ≡ true)
  unfolding inserted
  was xs k x h = by (has same xs k) h
    where
      by : (b : Bool) → has same (cond b xs (xs ++ k ∷ [])) x ≡ true → (has same xs x ≡ true) ⊎ (same k x ≡ true)
      by true p = inl p
      by false p = has_either xs k x p

  -- ---- a run
  run-kept : (xs ks : List K) (x : K) → has same xs x ≡ true → has same (inserts same xs ks) x ≡ true
  unfolding inserts
  run-kept xs [] x h = h
  run-kept xs (k ∷ ks) x h = run-kept (inserted same xs k) ks x (kept xs k x h)

  run-all : (xs ks : List K) (x : K) → has same ks x ≡ true → has same (inserts same xs ks) x ≡ true
  unfolding inserts
  run-all xs [] x h = none_of x h
  run-all xs (k ∷ ks) x h =
      ⊎_elim (λ m. run-kept (inserted same xs k) ks x (has-alike (inserted same xs k) k x m (came xs k))) (λ m. run-all (inserted same xs k) ks x m) (one_of k ks x h)

  run_only : (xs ks : List K) (x : K) → has same (inserts same xs ks) x ≡ true → (has same xs x ≡ true) ⊎ (has same ks x ≡ true)
  unfolding inserts
  run_only xs [] x h = inl h
  run_only xs (k ∷ ks) x h =
      ⊎_elim (λ m. ⊎_elim inl (λ n. inr (first_of k ks x n)) (was xs k x m)) (λ m. inr (rest_of k ks x m)) (run_only (inserted same xs k) ks x h)

  run-apart : (xs ks : List K) → distinct same xs ≡ true → distinct same (inserts same xs ks) ≡ true
  unfolding inserts
  run-apart xs [] d = d
  run-apart xs (k ∷ ks) d = run-apart (inserted same xs k) ks (distinct-inserted same xs k q d)

  pub runs : (ks : List K) → Runs same ks
  unfolding distinct
  runs ks = record {
    apart = run-apart [] ks refl;
    all = λ k h. run-all [] ks k h;
    only = λ k h. ⊎_elim (λ m. none_of k m) (λ m. m) (run_only [] ks k h);
  }
