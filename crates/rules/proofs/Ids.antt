-- Ids are given in order, without a gap.
use Rattle.std.proofs.Common.{◌≡◌, ℕ, zero, suc, ◌+◌, cond, List, ◌∷◌, ◌++◌, length, Some, None, Option, sym, refl, ap, ◌∙◌, add-zero, zero-add, arith, length-append}
use Rattle.std.proofs.lemmas.Bool.{cond_both}
use Rattle.syntax.specs.Meaning.{Meaning}
use Rattle.syntax.specs.Trees.{Siblings, none, node}
use Rattle.syntax.specs.declared.walk.NodeRef.{NodeRef}
use Rattle.rules.specs.Entries.{Record, Size, small, big, size_of, id_of, record_of, has_items, Entries, empty, entry, ids}
use Rattle.rules.specs.Inventory.{Counts, of_size, plus_one, plus, placed, entries_from, own, ids_given, ids_from}
use Rattle.rules.specs.Consequences.{IdsStand}

-- consecutive ids of a size
abbrev pub Row : Size → ℕ → List ℕ → Type 0
Row s index xs = xs ≡ ids_from s index (length xs)

ids_from-append : (s : Size) (index j k : ℕ) → ids_from s index j ++ ids_from s (index + j) k ≡ ids_from s index (j + k)
ids_from-append s index zero k = rw (add-zero, zero-add)
ids_from-append s index (suc j) k =
    let e : index + suc j ≡ index + 1 + j = omega arith in
    let f : suc j + k ≡ suc (j + k) = omega arith in
    let g = ids_from-append s (index + 1) j k in
    rw (e, f) (ap (λ xs. id_of s index ∷ xs) g)

pub row-append : (s : Size) (index b : ℕ) (xs ys : List ℕ) → b ≡ index + length xs → Row s index xs → Row s b ys → Row s index (xs ++ ys)
row-append s index b xs ys e f g =
    let h : xs ++ ys ≡ ids_from s index (length xs) ++ ids_from s (index + length xs) (length ys) = cc in
    h ∙ (ids_from-append s index (length xs) (length ys) ∙ ap (ids_from s index) (sym (length-append xs ys)))

own_row : (s t : Size) (n : Counts) → Row s (of_size s n) (own s t (id_of t (of_size t n)))
own_row small small n = refl
own_row small big n = refl
own_row big small n = refl
own_row big big n = refl

own-count : (s t : Size) (n : Counts) (id : ℕ) → of_size s (plus_one t n) ≡ of_size s n + length (own s t id)
own-count small small n id = refl
own-count small big n id = sym (add-zero _)
own-count big small n id = sym (add-zero _)
own-count big big n id = refl

pub counted : (s : Size) (es : Entries) (n : Counts) → of_size s (plus n es) ≡ of_size s n + length (ids_given s es)
counted s empty n = sym (add-zero _)
counted s (entry e inside later) n =
    let t = size_of e.item in
    let a = counted s inside n in
    let b = own-count s t (plus n inside) e.id in
    let c = counted s later (plus_one t (plus n inside)) in
    let l = length-append (ids_given s inside) (own s t e.id ++ ids_given s later) in
    let k = length-append (own s t e.id) (ids_given s later) in
    omega (arith, a, b, c, l, k)

placed_row : (s : Size) (m : Meaning) (earlier : Counts) (x : NodeRef) (inside : Entries) (later : Counts → Entries) (r : Option Record)
    → Row s (of_size s earlier) (ids_given s inside) → ((n : Counts) → Row s (of_size s n) (ids_given s (later n)))
    → Row s (of_size s earlier) (ids_given s (placed m earlier x inside later r))
placed_row s m earlier x inside later None f g = g earlier
placed_row s m earlier x inside later (Some r) f g =
    let t = size_of r in
    let n = plus earlier inside in
    let id = id_of t (of_size t n) in
    let rest = later (plus_one t n) in
    row-append s (of_size s earlier) (of_size s n) (ids_given s inside) (own s t id ++ ids_given s rest) (counted s inside earlier) f
    (row-append s (of_size s n) (of_size s (plus_one t n)) (own s t id) (ids_given s rest) (own-count s t n id) (own_row s t n) (g (plus_one t n)))

pub entries-row : (s : Size) (m : Meaning) (earlier : Counts) (i : ℕ) (items : Siblings) → Row s (of_size s earlier) (ids_given s (entries_from m earlier i items))
entries-row s m earlier i none = refl
entries-row s m earlier i (node x children later) =
    let inside = cond (has_items x) (entries_from m earlier (i + 1) children) empty in
    placed_row s m earlier (record { number = i; node = x }) inside (λ n. entries_from m n x.end later) (record_of m (record { number = i; node = x }) (ids inside))
    (cond_both (has_items x) _ empty (λ es. Row s (of_size s earlier) (ids_given s es)) (λ _. entries-row s m earlier (i + 1) children) (λ _. refl))
    (λ n. entries-row s m n x.end later)

pub ids-stand : IdsStand
ids-stand m earlier i items s = record { given = entries-row s m earlier i items; counted = counted s (entries_from m earlier i items) earlier }
