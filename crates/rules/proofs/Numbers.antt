-- Distinct paths keep their numbers.
use Rattle.std.proofs.Common.{◌≡◌, true, false, ◌⊎◌, List, [], ◌∷◌, ◌++◌, sym, refl, ap, ◌∙◌, subst, inl, inr, append_assoc, eq-eqb}
use Rattle.std.proofs.lemmas.List.{append-nil}
use Rattle.std.proofs.lemmas.Bool.{cond_both, or_cases, false≢true, or_left, or_right, false_from_ne_true}
use Rattle.paths.specs.Spelling.{Path}
use Rattle.paths.specs.declared.name.Name.{Name}
use Rattle.paths.specs.declared.name.Name.TheVariants.{Text, Missing}
use Rattle.rules.proofs.Alike.{path-same}
use Rattle.rules.specs.Consequences.{NoRepeats, EachOf, DistinctStands, NumbersStay}
use Rattle.rules.specs.Equality.{same_name, same_names, kind_number, same_path, has, noted, distinct}
use Rattle.rules.specs.Recorded.{Recorded, taken, module_in, path_in}

name-itself : (n : Name) → same_name n n ≡ true
name-itself (Text a) = eq-eqb a a refl
name-itself Missing = refl

names-itself : (ns : List Name) → same_names ns ns ≡ true
names-itself [] = refl
names-itself (n ∷ ns) = let a = name-itself n in let b = names-itself ns in rw (a, b) refl

path-itself : (p : Path) → same_path p p ≡ true
path-itself p =
    let a = eq-eqb (kind_number p.kind) (kind_number p.kind) refl in
    let b = names-itself p.names in
    rw (a, b) refl

-- a list with q, whether q was in it or not
module _ (q : Path) where
  noted-has : (ps : List Path) → has q (noted ps q) ≡ true
  noted-has [] = or_left (same_path q q) false (path-itself q)
  noted-has (p ∷ ps) =
      cond_both (same_path p q) (p ∷ ps) (p ∷ noted ps q) (λ rs. has q rs ≡ true)
      (λ y. or_left (same_path q p) (has q ps) (subst (λ r. same_path q r ≡ true) (sym (path-same p q y)) (path-itself q)))
      (λ _. or_right (same_path q p) (has q (noted ps q)) (noted-has ps))

  noted-kept : (r : Path) (ps : List Path) → has r ps ≡ true → has r (noted ps q) ≡ true
  noted-kept r [] h = absurd (false≢true h)
  noted-kept r (p ∷ ps) h =
      cond_both (same_path p q) (p ∷ ps) (p ∷ noted ps q) (λ rs. has r rs ≡ true) (λ _. h)
      (λ _. elim (or_cases (same_path r p) (has r ps) h) [ inl z ↦ or_left (same_path r p) (has r (noted ps q)) z | inr z ↦ or_right (same_path r p) (has r (noted ps q)) (noted-kept r ps z) ])

  -- what is in it was there, or is q
  noted-from : (r : Path) (ps : List Path) → has r (noted ps q) ≡ true → (has r ps ≡ true) ⊎ (same_path r q ≡ true)
  noted-from r [] h = elim (or_cases (same_path r q) false h) [ inl y ↦ inr y | inr y ↦ inl y ]
  noted-from r (p ∷ ps) h =
      cond_both (same_path p q) (p ∷ ps) (p ∷ noted ps q) (λ rs. has r rs ≡ true → (has r (p ∷ ps) ≡ true) ⊎ (same_path r q ≡ true)) (λ _ k. inl k)
      (λ _ k. elim (or_cases (same_path r p) (has r (noted ps q)) k) [
        | inl z ↦ inl (or_left (same_path r p) (has r ps) z)
        | inr z ↦ elim (noted-from r ps z) [ inl w ↦ inl (or_right (same_path r p) (has r ps) w) | inr w ↦ inr w ]
      ])
      h

  noted-apart : (ps : List Path) → NoRepeats ps → NoRepeats (noted ps q)
  noted-apart [] h = (refl, tt)
  noted-apart (p ∷ ps) h =
      cond_both (same_path p q) (p ∷ ps) (p ∷ noted ps q) NoRepeats (λ _. h)
      (λ n. (false_from_ne_true (has p (noted ps q)) (λ k. elim (noted-from p ps k) [ inl w ↦ false≢true (sym h.0 ∙ w) | inr w ↦ false≢true (sym n ∙ w) ]), noted-apart ps h.1))

  noted-front : (ps : List Path) → (more : List Path) × (noted ps q ≡ ps ++ more)
  noted-front [] = (q ∷ [], refl)
  noted-front (p ∷ ps) =
      cond_both (same_path p q) (p ∷ ps) (p ∷ noted ps q) (λ rs. (more : List Path) × (rs ≡ (p ∷ ps) ++ more))
      (λ _. ([], ap (λ xs. p ∷ xs) (sym (append-nil ps))))
      (λ _. let r = noted-front ps in (r.0, ap (λ xs. p ∷ xs) r.1))

distinct_apart : (qs ps : List Path) → NoRepeats ps → NoRepeats (distinct ps qs)
distinct_apart [] ps h = h
distinct_apart (q ∷ qs) ps h = distinct_apart qs (noted ps q) (noted-apart q ps h)

distinct-kept : (r : Path) (qs ps : List Path) → has r ps ≡ true → has r (distinct ps qs) ≡ true
distinct-kept r [] ps h = h
distinct-kept r (q ∷ qs) ps h = distinct-kept r qs (noted ps q) (noted-kept q r ps h)

distinct-all : (qs ps : List Path) → EachOf qs (distinct ps qs)
distinct-all [] ps = tt
distinct-all (q ∷ qs) ps = (distinct-kept q qs (noted ps q) (noted-has q ps), distinct-all qs (noted ps q))

-- what is in the result was in one of the two
distinct_from : (r : Path) (qs ps : List Path) → has r (distinct ps qs) ≡ true → (has r ps ≡ true) ⊎ (has r qs ≡ true)
distinct_from r [] ps h = inl h
distinct_from r (q ∷ qs) ps h =
    elim (distinct_from r qs (noted ps q) h) [
      | inl y ↦ elim (noted-from q r ps y) [ inl z ↦ inl z | inr z ↦ inr (or_left (same_path r q) (has r qs) z) ]
      | inr y ↦ inr (or_right (same_path r q) (has r qs) y)
    ]

each_itself : (ps qs : List Path) → ((r : Path) → has r ps ≡ true → has r qs ≡ true) → EachOf ps qs
each_itself [] qs h = tt
each_itself (p ∷ ps) qs h = (h p (or_left (same_path p p) (has p ps) (path-itself p)), each_itself ps qs (λ r k. h r (or_right (same_path r p) (has r ps) k)))

pub distinct-stands : DistinctStands
distinct-stands recorded = (
  distinct_apart recorded [] tt,
  distinct-all recorded [],
  each_itself (distinct [] recorded) recorded (λ r h. elim (distinct_from r recorded [] h) [ inl y ↦ absurd (false≢true y) | inr y ↦ y ]),
)

distinct-front : (qs ps : List Path) → (more : List Path) × (distinct ps qs ≡ ps ++ more)
distinct-front [] ps = ([], sym (append-nil ps))
distinct-front (q ∷ qs) ps =
    let a = noted-front q ps in
    let b = distinct-front qs (noted ps q) in
    (a.0 ++ b.0, b.1 ∙ (ap (λ xs. xs ++ b.0) a.1 ∙ append_assoc ps a.0 b.0))

distinct_append : (xs ys ps : List Path) → distinct ps (xs ++ ys) ≡ distinct (distinct ps xs) ys
distinct_append [] ys ps = refl
distinct_append (x ∷ xs) ys ps = distinct_append xs ys (noted ps x)

taken-append : (f : Recorded → List Path) (rs more : List Recorded) → taken f (rs ++ more) ≡ taken f rs ++ taken f more
taken-append f [] more = refl
taken-append f (r ∷ rs) more = ap (λ xs. f r ++ xs) (taken-append f rs more) ∙ sym (append_assoc (f r) (taken f rs) (taken f more))

front : (f : Recorded → List Path) (rs more : List Recorded) → (extra : List Path) × (distinct [] (taken f (rs ++ more)) ≡ distinct [] (taken f rs) ++ extra)
front f rs more =
    let r = distinct-front (taken f more) (distinct [] (taken f rs)) in
    (r.0, ap (distinct []) (taken-append f rs more) ∙ (distinct_append (taken f rs) (taken f more) [] ∙ r.1))

pub numbers_stay : NumbersStay
numbers_stay rs more =
    let a = front module_in rs more in
    let b = front path_in rs more in
    record { new_modules = a.0; modules = a.1; new_paths = b.0; paths = b.1 }
