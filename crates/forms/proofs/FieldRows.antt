-- Rows of things with fields.
use Rattle.std.proofs.Common.{◌≡◌, ℕ, zero, suc, pred, ◌+◌, ◌<◌, List, [], ◌∷◌, ◌++◌, length, replicate, sym, refl, ap, ◌∙◌, subst, append-nil, le_of_suc-le-suc, not-suc-le-zero, arith}
use Rattle.std.specs.List.{flat_map}
use Rattle.std.proofs.lemmas.List.{length-replicate, length_push}
use Rattle.syntax.specs.declared.refusal.Refusal.{Refusal}
use Rattle.forms.specs.Form.{Field, number, in_bytes, Narrow}
use Rattle.forms.specs.Reading.{Any, OfLength, Stands, Fails}
use Rattle.std.proofs.lemmas.Grind.{flat_map-append}
use Rattle.forms.proofs.Fields.{bytes-append, narrow-append, narrow_left, narrow_right}
use Rattle.forms.proofs.Sequences.{fails_first, fails_after}
use Rattle.forms.proofs.Firmness.{Single, Firm, no_fields, firm_pair}

module _ {A : Type 0} (f : A → List Field) where
  pub narrow-replicate : (d : A) (n : ℕ) → Narrow (f d) → Narrow (flat_map f (replicate n d))
  narrow-replicate d zero p = tt
  narrow-replicate d (suc n) p = narrow-append (f d) (flat_map f (replicate n d)) p (narrow-replicate d n p)

  -- one more thing stands
  pub row-none : (bs : List ℕ) → Stands (OfLength 0) (flat_map f) bs [] bs
  row-none bs = record { kept = refl; narrow = tt; same = refl }

  pub row_more : (i : ℕ) (bs middle rest : List ℕ) (xs : List A) (x : A) → Stands (OfLength i) (flat_map f) bs xs middle → Stands Any f middle x rest → Stands (OfLength (i + 1)) (flat_map f) bs (xs ++ x ∷ []) rest
  row_more i bs middle rest xs x p q =
      let one : flat_map f (x ∷ []) ≡ f x = append-nil (f x) in
      let all : flat_map f (xs ++ x ∷ []) ≡ flat_map f xs ++ f x = flat_map-append f xs (x ∷ []) ∙ ap (λ l. flat_map f xs ++ l) one in
      record {
        kept = length_push xs x ∙ ap (λ n. n + 1) p.kept;
        narrow = subst Narrow (sym all) (narrow-append (flat_map f xs) (f x) p.narrow q.narrow);
        same = p.same ∙ ap (λ l. in_bytes (flat_map f xs) ++ l) q.same ∙ sym (bytes-append (flat_map f xs) (f x) rest) ∙ ap (λ l. in_bytes l ++ rest) (sym all);
      }

  -- the first of a row fails
  pub row_here : (d : A) → Narrow (f d) → (n : ℕ) (bs : List ℕ) (e : Refusal) → Fails Any f bs e → Fails (OfLength (suc n)) (flat_map f) bs e
  row_here d narrow n bs e h =
      fails_first Any f (OfLength (suc n)) (flat_map f) (λ a _. (a ∷ replicate n d, flat_map f (replicate n d), ap suc (length-replicate n d), narrow-replicate d n narrow, refl)) bs e h

  -- or one after the first
  pub row_next : (n : ℕ) (bs rest : List ℕ) (x : A) (e : Refusal) → Stands Any f bs x rest → Fails (OfLength n) (flat_map f) rest e → Fails (OfLength (suc n)) (flat_map f) bs e
  row_next n bs rest x e p h =
      fails_after f (OfLength n) (flat_map f) (OfLength (suc n)) (flat_map f) x p.narrow (λ ys k. (x ∷ ys, ap suc k, refl)) bs rest p.same e h

  -- or one after those that are read
  pub row-past : (d : A) → Narrow (f d) → (n : ℕ) (bs rest : List ℕ) (xs : List A) (e : Refusal) → length xs < n → Narrow (flat_map f xs) → bs ≡ in_bytes (flat_map f xs) ++ rest → Fails Any f rest e → Fails (OfLength n) (flat_map f) bs e
  row-past d narrow zero bs rest xs e less p same h = absurd (not-suc-le-zero less)
  row-past d narrow (suc n) bs rest [] e less p same h = subst (λ l. Fails (OfLength (suc n)) (flat_map f) l e) (sym same) (row_here d narrow n rest e h)
  row-past d narrow (suc n) bs rest (x ∷ xs) e less p same h =
      row_next n bs (in_bytes (flat_map f xs) ++ rest) x e (record { kept = tt; narrow = narrow_left (f x) (flat_map f xs) p; same = same ∙ bytes-append (f x) (flat_map f xs) rest })
      (row-past d narrow n (in_bytes (flat_map f xs) ++ rest) rest xs e (le_of_suc-le-suc less) (narrow_right (f x) (flat_map f xs) p) refl h)

  -- one row, and a firm one
  module _ (single : Single Any f) where
    pub rows_single : (n : ℕ) → Single (OfLength n) (flat_map f)
    rows_single n [] [] r s p q u v e = (refl, e)
    rows_single n [] (y ∷ ys) r s p q u v e = absurd (omega (arith, p, q))
    rows_single n (x ∷ xs) [] r s p q u v e = absurd (omega (arith, p, q))
    rows_single n (x ∷ xs) (y ∷ ys) r s p q u v e =
        let first = single x y (in_bytes (flat_map f xs) ++ r) (in_bytes (flat_map f ys) ++ s) tt tt (narrow_left (f x) (flat_map f xs) u) (narrow_left (f y) (flat_map f ys) v) (sym (bytes-append (f x) (flat_map f xs) r) ∙ e ∙ bytes-append (f y) (flat_map f ys) s) in
        let later = rows_single (length xs) xs ys r s refl (omega (arith, p, q)) (narrow_right (f x) (flat_map f xs) u) (narrow_right (f y) (flat_map f ys) v) first.1 in
        (λ i. first.0 i ∷ later.0 i, later.1)

    row-divides : (n : ℕ) (xs : List A) → length xs ≡ suc n → (x : A) × (ys : List A) × Any x × (length ys ≡ n) × (flat_map f xs ≡ f x ++ flat_map f ys)
    row-divides n [] p = absurd (omega (arith, p))
    row-divides n (x ∷ xs) p = (x, xs, tt, ap pred p, refl)

    none-firm : Firm (OfLength 0) (flat_map f)
    none-firm [] b before after v bad r s fault p q u w other faulty there e = no_fields (number v) before after there
    none-firm (x ∷ xs) b before after v bad r s fault p q u w other faulty there e = omega (arith, p)

    pub rows_firm : Firm Any f → (n : ℕ) → Firm (OfLength n) (flat_map f)
    rows_firm firm zero = none-firm
    rows_firm firm (suc n) = firm_pair Any f (λ _. OfLength n) (flat_map f) (OfLength (suc n)) (flat_map f) (row-divides n) single firm (λ _ _. rows_firm firm n)
