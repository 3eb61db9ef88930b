-- Siblings made of a list: nothing is lost, and the first of them.
use Rattle.std.proofs.Common.{◌≡◌, ℕ, zero, suc, ◌+◌, ◌-◌, ◌<◌, ◌≤◌, min, List, [], ◌∷◌, ◌++◌, length, get_or, take, drop, sym, refl, ap, ◌∙◌, arith, length-append, length-drop, take-append-drop, length-take}
use Rattle.std.proofs.lemmas.List.{drop_more, drop-drop, drop-take, take-take}
use Rattle.syntax.specs.declared.node.Node.{Node}
use Rattle.syntax.specs.Trees.{Siblings, none, node, size, listed, grouped, siblings, between}

-- more steps than nodes change nothing
grouped_enough : (s t i : ℕ) (xs : List Node) → length xs ≤ s → length xs ≤ t → grouped s i xs ≡ grouped t i xs
grouped_enough zero zero i xs p q = refl
grouped_enough zero (suc t) i [] p q = refl
grouped_enough zero (suc t) i (x ∷ xs) p q = absurd (omega arith)
grouped_enough (suc s) zero i [] p q = refl
grouped_enough (suc s) zero i (x ∷ xs) p q = absurd (omega arith)
grouped_enough (suc s) (suc t) i [] p q = refl
grouped_enough (suc s) (suc t) i (x ∷ xs) p q =
    let n : ℕ = x.end - (i + 1) in
    let children = grouped_enough s t (i + 1) (take n xs) (omega (arith, length-take n xs)) (omega (arith, length-take n xs)) in
    let later = grouped_enough s t x.end (drop n xs) (omega (arith, length-drop n xs)) (omega (arith, length-drop n xs)) in
    λ k. node x (children k) (later k)

pub siblings-cons : (i : ℕ) (x : Node) (xs : List Node) → siblings i (x ∷ xs) ≡ node x (siblings (i + 1) (take (x.end - (i + 1)) xs)) (siblings x.end (drop (x.end - (i + 1)) xs))
siblings-cons i x xs =
    let n : ℕ = x.end - (i + 1) in
    let children = grouped_enough (length xs) (length (take n xs)) (i + 1) (take n xs) (omega (arith, length-take n xs)) (omega arith) in
    let later = grouped_enough (length xs) (length (drop n xs)) x.end (drop n xs) (omega (arith, length-drop n xs)) (omega arith) in
    λ k. node x (children k) (later k)

-- the tree of a list has that listing
listed-grouped : (s i : ℕ) (xs : List Node) → length xs ≤ s → listed (grouped s i xs) ≡ xs
listed-grouped zero i [] p = refl
listed-grouped zero i (x ∷ xs) p = absurd (omega arith)
listed-grouped (suc s) i [] p = refl
listed-grouped (suc s) i (x ∷ xs) p =
    let n : ℕ = x.end - (i + 1) in
    let children = listed-grouped s (i + 1) (take n xs) (omega (arith, length-take n xs)) in
    let later = listed-grouped s x.end (drop n xs) (omega (arith, length-drop n xs)) in
    (λ k. x ∷ (children k ++ later k)) ∙ ap (λ l. x ∷ l) (take-append-drop n xs)

pub listed-siblings : (i : ℕ) (xs : List Node) → listed (siblings i xs) ≡ xs
listed-siblings i xs = listed-grouped (length xs) i xs (omega arith)

pub length-listed : (t : Siblings) → length (listed t) ≡ size t
length-listed none = refl
length-listed (node x children later) = omega (arith, length-append (listed children) (listed later), length-listed children, length-listed later)

pub size-siblings : (i : ℕ) (xs : List Node) → size (siblings i xs) ≡ length xs
size-siblings i xs = sym (length-listed (siblings i xs)) ∙ ap length (listed-siblings i xs)

-- the first of the nodes from i to before `end`
module _ (xs : List Node) (d : Node) (i end : ℕ) (some : i < end) (in_List : end ≤ length xs) where
  abbrev x : Node
  x = get_or xs i d

  -- those after it
  rest : List Node
  rest = take (end - (i + 1)) (drop (i + 1) xs)

  rest-length : length rest ≡ end - (i + 1)
  unfolding rest
  rest-length = omega (arith, length-take (end - (i + 1)) (drop (i + 1) xs), length-drop (i + 1) xs)

  first-and-rest : take (end - i) (drop i xs) ≡ x ∷ rest
  unfolding rest
  first-and-rest =
      let n : end - i ≡ suc (end - (i + 1)) = omega arith in
      (λ k. take (n k) (drop_more xs i d (omega arith) k))

  -- whatever its end is
  pub children_any : Siblings
  children_any = siblings (i + 1) (take (x.end - (i + 1)) rest)

  pub later_any : Siblings
  later_any = siblings x.end (drop (x.end - (i + 1)) rest)

  pub between_any : between xs i end ≡ node x children_any later_any
  unfolding children_any later_any
  between_any = ap (siblings i) first-and-rest ∙ siblings-cons i x rest

  pub size_any : size children_any ≡ min (x.end - (i + 1)) (end - (i + 1))
  unfolding children_any
  size_any = size-siblings (i + 1) (take (x.end - (i + 1)) rest) ∙ length-take (x.end - (i + 1)) rest ∙ ap (min (x.end - (i + 1))) rest-length

  -- its end is among them, or just after them
  module _ (up : i < x.end) (low : x.end ≤ end) where
    pub between_first : between xs i end ≡ node x (between xs (i + 1) x.end) (between xs x.end end)
    unfolding children_any later_any rest
    between_first =
        let n : ℕ = x.end - (i + 1) in
        let parts : end - (i + 1) ≡ n + (end - x.end) = omega arith in
        let at-end : i + 1 + n ≡ x.end = omega arith in
        let children : take n rest ≡ take n (drop (i + 1) xs) = take-take n (end - (i + 1)) (drop (i + 1) xs) (omega arith) in
        let later : drop n rest ≡ take (end - x.end) (drop x.end xs) =
        ap (λ k. drop n (take k (drop (i + 1) xs))) parts ∙ drop-take n (end - x.end) (drop (i + 1) xs) ∙ ap (take (end - x.end)) (drop-drop n (i + 1) xs ∙ ap (λ k. drop k xs) at-end) in
        between_any ∙ (λ k. node x (siblings (i + 1) (children k)) (siblings x.end (later k)))

    pub size-children : size (between xs (i + 1) x.end) ≡ x.end - (i + 1)
    size-children = size-siblings (i + 1) (take (x.end - (i + 1)) (drop (i + 1) xs)) ∙ length-take (x.end - (i + 1)) (drop (i + 1) xs) ∙ omega (arith, length-drop (i + 1) xs)

pub between_none : (xs : List Node) (end : ℕ) → between xs end end ≡ none
between_none xs end = let n : end - end ≡ 0 = omega arith in ap (λ k. siblings end (take k (drop end xs))) n
