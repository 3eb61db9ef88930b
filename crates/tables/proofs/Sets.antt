-- Keys of which no two are alike: seeking one, and one more.
use Rattle.std.proofs.Common.{◌≡◌, ℕ, zero, suc, ◌+◌, ◌<◌, ◌≤◌, Bool, true, false, cond, List, [], ◌∷◌, ◌++◌, length, take, drop, Some, None, Option, sym, refl, ap, ◌∙◌, arith, zero-add, MatchOption}
use Rattle.std.specs.Bool.{Decides}
use Rattle.std.specs.List.{find, range_with_len}
use Rattle.std.specs.Option.{option_map}
use Rattle.std.proofs.lemmas.List.{drop_all}
use Rattle.syntax.specs.Meaning.{at, first}
use Rattle.tables.specs.Sets.{Equality, Equivalence, has, place, inserted, distinct, same_at}

pub two_ways : {X : Type 0} → true ≡ false → X
two_ways e = let z : ◌≡◌ {A = ℕ} 0 1 = cc in absurd (omega arith)

not-true : (b : Bool) → (b ≡ true → ⊥) → b ≡ false
not-true true h = absurd (h refl)
not-true false h = refl

-- ---- a list from a place on
pub record From {K : Type 0} (xs : List K) (i : ℕ) : Type 0 where
  pub head : K
  pub rest : List K
  pub here : drop i xs ≡ head ∷ rest
  pub next : drop (i + 1) xs ≡ rest

pub from : {K : Type 0} (xs : List K) (i : ℕ) → i < length xs → From xs i
from [] i h = absurd (omega arith)
from (x ∷ xs) zero h = record { head = x; rest = xs; here = refl; next = refl }
from (x ∷ xs) (suc i) h =
    let r = from xs i (omega arith) in
    let up : suc i + 1 ≡ suc (i + 1) = omega arith in
    record { head = r.head; rest = r.rest; here = r.here; next = ap (λ n. drop n (x ∷ xs)) up ∙ r.next }

module _ {K : Type 0} (same : K → K → Bool) where
  -- ---- seeking
  -- the first place from i on where a key alike stands, of n places, which are all that are left
  found : (xs : List K) (k : K) (i n : ℕ) → i + n ≡ length xs → find (λ j. same_at same (at xs j) k) (range_with_len i n) ≡ cond (has same (drop i xs) k) (Some (i + place same (drop i xs) k)) None
  unfolding has place
  found xs k i zero e = sym (ap (λ (ys : List K). cond (has same ys k) (Some (i + place same ys k)) None) (drop_all i xs (omega arith)))
  found xs k i (suc n) e =
      let f = from xs i (omega arith) in
      let r = found xs k (i + 1) n (omega arith) ∙ ap (λ (ys : List K). cond (has same ys k) (Some (i + 1 + place same ys k)) None) f.next in
      ap (λ (ys : List K). cond (same_at same (first ys) k) (Some i) (find (λ j. same_at same (at xs j) k) (range_with_len (i + 1) n))) f.here
      ∙ by (same f.head k) (has same f.rest k) (place same f.rest k) _ r
      ∙ sym (ap (λ (ys : List K). cond (has same ys k) (Some (i + place same ys k)) None) f.here)
    where
      by : (b h : Bool) (p : ℕ) (o : Option ℕ) → o ≡ cond h (Some (i + 1 + p)) None → cond b (Some i) o ≡ cond (cond b true h) (Some (i + cond b 0 (suc p))) None
      by true h p o r = ap Some (omega arith)
      by false true p o r = r ∙ ap Some (omega arith)
      by false false p o r = r

  pub sought : (xs : List K) (k : K) (r : Option ℕ) → option_map (λ i. i) r ≡ find (λ j. same_at same (at xs j) k) (range_with_len 0 (length xs))
      → MatchOption r (has same xs k ≡ false) (λ i. (has same xs k ≡ true) × (i ≡ place same xs k))
  sought xs k r e = by r (has same xs k) (place same xs k) (e ∙ found xs k 0 (length xs) (omega arith) ∙ ap (λ n. cond (has same xs k) (Some n) None) (zero-add (place same xs k)))
    where
      by : (r : Option ℕ) (h : Bool) (p : ℕ) → option_map (λ i. i) r ≡ cond h (Some p) None → MatchOption r (h ≡ false) (λ i. (h ≡ true) × (i ≡ p))
      by None false p e = refl
      by None true p e = cc
      by (Some i) true p e = (refl, cc)
      by (Some i) false p e = cc

  -- ---- what follows from a key being held or not
  pub inserted-held : (xs : List K) (k : K) → has same xs k ≡ true → inserted same xs k ≡ xs
  unfolding inserted
  inserted-held xs k h = ap (λ b. cond b xs (xs ++ k ∷ [])) h

  pub inserted_new : (xs : List K) (k : K) → has same xs k ≡ false → inserted same xs k ≡ xs ++ k ∷ []
  unfolding inserted
  inserted_new xs k h = ap (λ b. cond b xs (xs ++ k ∷ [])) h

  pub place-new : (xs : List K) (k : K) → has same xs k ≡ false → place same xs k ≡ length xs
  unfolding has place
  place-new [] k h = refl
  place-new (x ∷ xs) k h = by (same x k) h (place-new xs k)
    where
      by : (b : Bool) → cond b true (has same xs k) ≡ false → (has same xs k ≡ false → place same xs k ≡ length xs) → cond b 0 (suc (place same xs k)) ≡ suc (length xs)
      by true p r = two_ways p
      by false p r = ap suc (r p)

  pub place-held : (xs : List K) (k : K) → has same xs k ≡ true → place same xs k < length xs
  unfolding has place
  place-held [] k h = two_ways (sym h)
  place-held (x ∷ xs) k h = by (same x k) h (place-held xs k)
    where
      by : (b : Bool) → cond b true (has same xs k) ≡ true → (has same xs k ≡ true → place same xs k < length xs) → cond b 0 (suc (place same xs k)) < suc (length xs)
      by true p r = omega arith
      by false p r = let q = r p in omega arith

  -- ---- no two alike
  head-new : (x : K) (xs : List K) (k : K) → has same (x ∷ xs) k ≡ false → (same x k ≡ false) × (has same xs k ≡ false)
  unfolding has
  head-new x xs k h = by (same x k) h
    where
      by : (b : Bool) → cond b true (has same xs k) ≡ false → (b ≡ false) × (has same xs k ≡ false)
      by true p = two_ways p
      by false p = (refl, p)

  has_push : (xs : List K) (k x : K) → same k x ≡ false → has same xs x ≡ false → has same (xs ++ k ∷ []) x ≡ false
  unfolding has
  has_push [] k x e h = ap (λ b. cond b true false) e
  has_push (y ∷ xs) k x e h =
      let p = head-new y xs x h in
      ap (λ b. cond b true (has same (xs ++ k ∷ []) x)) p.0 ∙ has_push xs k x e p.1

  has-take : (n : ℕ) (xs : List K) (x : K) → has same xs x ≡ false → has same (take n xs) x ≡ false
  unfolding has
  has-take zero xs x h = refl
  has-take (suc n) [] x h = refl
  has-take (suc n) (y ∷ xs) x h =
      let p = head-new y xs x h in
      ap (λ b. cond b true (has same (take n xs) x)) p.0 ∙ has-take n xs x p.1

  distinct-parts : (x : K) (xs : List K) → distinct same (x ∷ xs) ≡ true → (has same xs x ≡ false) × (distinct same xs ≡ true)
  unfolding distinct
  distinct-parts x xs h = by (has same xs x) h
    where
      by : (b : Bool) → cond b false (distinct same xs) ≡ true → (b ≡ false) × (distinct same xs ≡ true)
      by true p = two_ways (sym p)
      by false p = (refl, p)

  pub distinct-take : (n : ℕ) (xs : List K) → distinct same xs ≡ true → distinct same (take n xs) ≡ true
  unfolding distinct
  distinct-take zero xs h = refl
  distinct-take (suc n) [] h = refl
  distinct-take (suc n) (x ∷ xs) h =
      let p = distinct-parts x xs h in
      ap (λ b. cond b false (distinct same (take n xs))) (has-take n xs x p.0) ∙ distinct-take n xs p.1

  pub distinct_push : (xs : List K) (k : K) → Equivalence same → has same xs k ≡ false → distinct same xs ≡ true → distinct same (xs ++ k ∷ []) ≡ true
  unfolding distinct has
  distinct_push [] k q h d = refl
  distinct_push (x ∷ xs) k q h d =
      let p = distinct-parts x xs d in
      let m = head-new x xs k h in
      let away : same k x ≡ false = not-true (same k x) (λ e. two_ways (sym (q.symmetric k x e) ∙ m.0)) in
      ap (λ b. cond b false (distinct same (xs ++ k ∷ []))) (has_push xs k x away p.0) ∙ distinct_push xs k q m.1 p.1

  pub distinct-inserted : (xs : List K) (k : K) → Equivalence same → distinct same xs ≡ true → distinct same (inserted same xs k) ≡ true
  unfolding inserted
  distinct-inserted xs k q d = by (has same xs k) refl
    where
      by : (b : Bool) → has same xs k ≡ b → distinct same (cond b xs (xs ++ k ∷ [])) ≡ true
      by true e = d
      by false e = distinct_push xs k q e d

  -- ---- what numbers mean after an insertion
  at_push : (xs : List K) (k : K) → at (xs ++ k ∷ []) (length xs) ≡ Some k
  at_push [] k = refl
  at_push (x ∷ xs) k = at_push xs k

  at_front : (xs ys : List K) (i : ℕ) (x : K) → at xs i ≡ Some x → at (xs ++ ys) i ≡ Some x
  at_front [] ys i x h = let z : ◌≡◌ {A = ℕ} 0 1 = (let e = ap first (drop_all {X = K} i [] (omega arith)) in cc) in absurd (omega arith)
  at_front (y ∷ xs) ys zero x h = h
  at_front (y ∷ xs) ys (suc i) x h = at_front xs ys i x h

  -- a number that names a key goes on naming it
  pub at-inserted : (xs : List K) (k : K) (i : ℕ) (x : K) → at xs i ≡ Some x → at (inserted same xs k) i ≡ Some x
  unfolding inserted
  at-inserted xs k i x h = by (has same xs k)
    where
      by : (b : Bool) → at (cond b xs (xs ++ k ∷ [])) i ≡ Some x
      by true = h
      by false = at_front xs (k ∷ []) i x h

  at_place : (xs : List K) (k : K) → ((x y : K) → same x y ≡ true → x ≡ y) → has same xs k ≡ true → at xs (place same xs k) ≡ Some k
  unfolding has place
  at_place [] k d h = two_ways (sym h)
  at_place (x ∷ xs) k d h = by (same x k) refl h (at_place xs k d)
    where
      by : (b : Bool) → same x k ≡ b → cond b true (has same xs k) ≡ true → (has same xs k ≡ true → at xs (place same xs k) ≡ Some k) → at (x ∷ xs) (cond b 0 (suc (place same xs k))) ≡ Some k
      by true e p r = ap Some (d x k e)
      by false e p r = r p

  -- the number that is answered names the key, where only equal keys are alike
  pub at-placed : (xs : List K) (k : K) → ((x y : K) → same x y ≡ true → x ≡ y) → at (inserted same xs k) (place same xs k) ≡ Some k
  at-placed xs k d = by (has same xs k) refl
    where
      by : (b : Bool) → has same xs k ≡ b → at (inserted same xs k) (place same xs k) ≡ Some k
      by true e = ap (λ (ys : List K). at ys (place same xs k)) (inserted-held xs k e) ∙ at_place xs k d e
      by false e = ap (λ (ys : List K). at ys (place same xs k)) (inserted_new xs k e) ∙ ap (at (xs ++ k ∷ [])) (place-new xs k e) ∙ at_push xs k

  -- a place that is answered is below the bound of the keys
  pub place-below : (n : ℕ) (xs : List K) (k : K) (i : ℕ) → i ≡ place same xs k → length xs ≤ n → (has same xs k ≡ false → length xs < n) → i < n
  place-below n xs k i e few room = by (has same xs k) refl
    where
      by : (b : Bool) → has same xs k ≡ b → i < n
      by true h = let l = place-held xs k h in omega arith
      by false h = let l = place-new xs k h in let m = room h in omega arith

  -- a test of equality is the comparison
  pub decided : Equality same → (b : Bool) (o : Option K) (k : K) → Decides b (o ≡ Some k) → b ≡ same_at same o k
  decided q true None k d = let e = d.0 refl in cc
  decided q true (Some x) k d = let e : x ≡ k = (let f = d.0 refl in cc) in sym (ap (λ z. same z k) e ∙ q.itself k)
  decided q false None k d = refl
  decided q false (Some x) k d = sym (not-true (same x k) (λ e. two_ways (sym (d.1 (ap Some (q.only x k e))))))

  -- ---- a key has one number
  has-at : (xs : List K) (i : ℕ) (x k : K) → at xs i ≡ Some x → same x k ≡ true → has same xs k ≡ true
  unfolding has
  has-at [] i x k h e = let z : ◌≡◌ {A = ℕ} 0 1 = (let n = ap first (drop_all {X = K} i [] (omega arith)) in cc) in absurd (omega arith)
  has-at (y ∷ xs) zero x k h e = let s : y ≡ x = cc in ap (λ b. cond b true (has same xs k)) (ap (λ z. same z k) s ∙ e)
  has-at (y ∷ xs) (suc i) x k h e = by (same y k) (has-at xs i x k h e)
    where
      by : (b : Bool) → has same xs k ≡ true → cond b true (has same xs k) ≡ true
      by true p = refl
      by false p = p

  pub number_unique : Equivalence same → (xs : List K) (i j : ℕ) (x y : K) → distinct same xs ≡ true → at xs i ≡ Some x → at xs j ≡ Some y → same x y ≡ true → i ≡ j
  number_unique q [] i j x y d h k e = let z : ◌≡◌ {A = ℕ} 0 1 = (let n = ap first (drop_all {X = K} i [] (omega arith)) in cc) in absurd (omega arith)
  number_unique q (z ∷ xs) zero zero x y d h k e = refl
  number_unique q (z ∷ xs) zero (suc j) x y d h k e =
      let s : x ≡ z = cc in
      let m : same y z ≡ true = ap (λ w. same y w) (sym s) ∙ q.symmetric x y e in
      two_ways (sym (has-at xs j y z k m) ∙ (distinct-parts z xs d).0)
  number_unique q (z ∷ xs) (suc i) zero x y d h k e =
      let s : y ≡ z = cc in
      let m : same x z ≡ true = ap (λ w. same x w) (sym s) ∙ e in
      two_ways (sym (has-at xs i x z h m) ∙ (distinct-parts z xs d).0)
  number_unique q (z ∷ xs) (suc i) (suc j) x y d h k e = ap suc (number_unique q xs i j x y (distinct-parts z xs d).1 h k e)
