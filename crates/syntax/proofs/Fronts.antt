-- What stands at a place of a list, or of its front.
use Rattle.std.proofs.Common.{◌≡◌, ℕ, zero, suc, ◌<◌, ◌≤◌, List, [], ◌∷◌, map, length, get_or, take, Some, None, refl, ap, ◌∙◌, le_of_suc-le-suc, not-suc-le-zero, arith, length-take}
use Rattle.std.proofs.lemmas.List.{get_or-take, get_or-map, length-map}
use Rattle.syntax.specs.Meaning.{at}

module _ {A : Type 0} where
  pub at_in : (i : ℕ) (xs : List A) (d : A) → i < length xs → at xs i ≡ Some (get_or xs i d)
  at_in i [] d less = absurd (not-suc-le-zero less)
  at_in zero (x ∷ xs) d less = refl
  at_in (suc i) (x ∷ xs) d less = at_in i xs d (le_of_suc-le-suc less)

  pub at-past : (i : ℕ) (xs : List A) → length xs ≤ i → at xs i ≡ None
  at-past zero [] past = refl
  at-past zero (x ∷ xs) past = absurd (not-suc-le-zero past)
  at-past (suc i) [] past = refl
  at-past (suc i) (x ∷ xs) past = at-past i xs (le_of_suc-le-suc past)

  pub at_some : (i : ℕ) (xs : List A) (x : A) → at xs i ≡ Some x → (i < length xs) × (get_or xs i x ≡ x)
  at_some zero [] x e = let never : ◌≡◌ {A = ℕ} 0 1 = cc in absurd (omega arith)
  at_some (suc i) [] x e = let never : ◌≡◌ {A = ℕ} 0 1 = cc in absurd (omega arith)
  at_some zero (y ∷ xs) x e = (omega arith, (let same : y ≡ x = cc in same))
  at_some (suc i) (y ∷ xs) x e = let later = at_some i xs x e in (omega (arith, later.0), later.1)

  pub front_at : (n i : ℕ) (xs : List A) (d : A) → i < n → i < length xs → at (take n xs) i ≡ Some (get_or xs i d)
  front_at n i xs d less in_List = at_in i (take n xs) d (omega (arith, length-take n xs)) ∙ ap Some (get_or-take n xs i d less)

  pub front-past : (n i : ℕ) (xs : List A) → n ≤ i → at (take n xs) i ≡ None
  front-past n i xs past = at-past i (take n xs) (omega (arith, length-take n xs))

module _ {A B : Type 0} (f : A → B) where
  pub map-at_in : (i : ℕ) (xs : List A) (d : A) → i < length xs → at (map f xs) i ≡ Some (f (get_or xs i d))
  map-at_in i xs d less = at_in i (map f xs) (f d) (omega (arith, length-map xs f)) ∙ ap Some (get_or-map f xs i d (f d) less)

  pub map-at-past : (i : ℕ) (xs : List A) → length xs ≤ i → at (map f xs) i ≡ None
  map-at-past i xs past = at-past i (map f xs) (omega (arith, length-map xs f))

  pub map-front-at : (n i : ℕ) (xs : List A) (d : A) → i < n → i < length xs → at (map f (take n xs)) i ≡ Some (f (get_or xs i d))
  map-front-at n i xs d less in_List = map-at_in i (take n xs) d (omega (arith, length-take n xs)) ∙ ap (λ x. Some (f x)) (get_or-take n xs i d less)

  pub map-front-past : (n i : ℕ) (xs : List A) → n ≤ i → at (map f (take n xs)) i ≡ None
  map-front-past n i xs past = map-at-past i (take n xs) (omega (arith, length-take n xs))
