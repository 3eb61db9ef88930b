-- How many entries a call can bring.
use Rattle.std.proofs.Common.{◌≡◌, ℕ, ◌+◌, ◌-◌, ◌≤◌, Bool, true, false, cond, List, ◌++◌, length, take, drop, Some, None, Option, sym, refl, ap, subst, inl, inr, arith, length-append, length-drop, length-take}
use Rattle.std.proofs.lemmas.Bool.{ltb-true, or_cases, cond_both}
use Rattle.syntax.proofs.Grouping.{size-siblings}
use Rattle.syntax.proofs.Rows.{between_alone}
use Rattle.syntax.proofs.Lawfulness.{law-stands}
use Rattle.syntax.specs.Law.{lawful}
use Rattle.syntax.specs.Meaning.{Meaning, node_at}
use Rattle.syntax.specs.Refusals.{number_of}
use Rattle.syntax.specs.Trees.{Siblings, none, node, size, between}
use Rattle.syntax.specs.declared.node.Node.{Node}
use Rattle.syntax.specs.declared.refusal.Refusal.{Refusal}
use Rattle.syntax.specs.declared.refusal.Refusal.TheVariants.{NotAnItem, NotFirst, TableFull, IndexTooLarge}
use Rattle.syntax.specs.declared.walk.NodeRef.{NodeRef}
use Rattle.rules.proofs.Apart.{plus-followed}
use Rattle.rules.proofs.Ids.{counted}
use Rattle.rules.proofs.RunSteps.{limits_stand, in_limits}
use Rattle.rules.specs.Consequences.{IndexNever, OneItem}
use Rattle.rules.specs.Entries.{Record, Size, small, big, size_of, id_of, record_of, has_items, Entries, empty, ids, followed}
use Rattle.rules.specs.Inventory.{Counts, of_size, plus_one, plus, no_ids, placed, entries_from, alone, node_tree, below, root_items, own, ids_given}
use Rattle.rules.specs.Runs.{Call, root, item, Lowered, new, appended, after, not_an_item, not_first, index_too_large, table_full, lowered}

own-few : (s t : Size) (n : ℕ) → length (own s t n) ≤ 1
own-few small small n = omega arith
own-few small big n = omega arith
own-few big small n = omega arith
own-few big big n = omega arith

-- the ids of an entry, those inside it and those after it
entry-few : (s : Size) (given mine later : List ℕ) (j k : ℕ) → length given ≤ j → length mine ≤ 1 → length later ≤ k → length (given ++ (mine ++ later)) ≤ 1 + j + k
entry-few s given mine later j k f o g =
    let a = length-append given (mine ++ later) in
    let b = length-append mine later in
    omega (arith, a, b)

placed-few : (s : Size) (m : Meaning) (a : Counts) (x : NodeRef) (inside : Entries) (later : Counts → Entries) (r : Option Record) (j k : ℕ)
    → length (ids_given s inside) ≤ j → ((n : Counts) → length (ids_given s (later n)) ≤ k) → length (ids_given s (placed m a x inside later r)) ≤ 1 + j + k
placed-few s m a x inside later None j k f g = let h = g a in omega (arith, h)
placed-few s m a x inside later (Some r) j k f g =
    let t = size_of r in
    let b = plus a inside in
    let n = id_of t (of_size t b) in
    entry-few s (ids_given s inside) (own s t n) (ids_given s (later (plus_one t b))) j k f (own-few s t n) (g (plus_one t b))

-- no more than there are nodes
entries-few : (s : Size) (m : Meaning) (a : Counts) (i : ℕ) (items : Siblings) → length (ids_given s (entries_from m a i items)) ≤ size items
entries-few s m a i none = omega arith
entries-few s m a i (node x children later) =
    let here : NodeRef = record { number = i; node = x } in
    let inside = cond (has_items x) (entries_from m a (i + 1) children) empty in
    placed-few s m a here inside (λ n. entries_from m n x.end later) (record_of m here (ids inside)) (size children) (size later)
    (cond_both (has_items x) _ empty (λ es. length (ids_given s es) ≤ size children) (λ _. entries-few s m a (i + 1) children) (λ _. omega arith))
    (λ n. entries-few s m n x.end later)

between-few : (xs : List Node) (i end : ℕ) → size (between xs i end) ≤ length xs
between-few xs i end =
    let a = size-siblings i (take (end - i) (drop i xs)) in
    let b = length-take (end - i) (drop i xs) in
    let c = length-drop i xs in
    omega (arith, a, b, c)

alone-few : (xs : List Node) (i : ℕ) (o : Option Node) → size (alone xs i o) ≤ length xs
alone-few xs i None = omega arith
alone-few xs i (Some x) = between-few xs i x.end

below-few : (xs : List Node) (o : Option Node) → size (below xs o) ≤ length xs
below-few xs None = omega arith
below-few xs (Some x) = between-few xs 1 x.end

appended-few : (s : Size) (m : Meaning) (es : Entries) (call : Call) → length (ids_given s (appended m es call)) ≤ length m.nodes
appended-few s m es root = let a = entries-few s m (plus no_ids es) 1 (root_items m) in let b = below-few m.nodes (node_at m 0) in omega (arith, a, b)
appended-few s m es (item n) = let a = entries-few s m (plus no_ids es) n (node_tree m n) in let b = alone-few m.nodes n (node_at m n) in omega (arith, a, b)

added : (s : Size) (m : Meaning) (es : Entries) (call : Call) → of_size s (plus no_ids (followed es (appended m es call))) ≤ of_size s (plus no_ids es) + length m.nodes
added s m es call =
    let a = ap (of_size s) (plus-followed no_ids es (appended m es call)) in
    let b = counted s (appended m es call) (plus no_ids es) in
    let c = appended-few s m es call in
    omega (arith, a, b, c)

after-count : (s : Size) (m : Meaning) (t : Lowered) (call : Call) → of_size s (plus no_ids (after m t call).entries) ≤ of_size s (plus no_ids t.entries) + length m.nodes
after-count s m t root = added s m t.entries root
after-count s m t (item n) = added s m t.entries (item n)

small-index : (n : Counts) → n.smalls ≤ 10000 → n.bigs ≤ 10000 → index_too_large n ≡ true → ⊥
small-index n f g h = elim (or_cases _ _ h) [ inl y ↦ (let l = ltb-true 2147483647 n.smalls y in omega (arith, l)) | inr y ↦ (let l = ltb-true 2147483647 n.bigs y in omega (arith, l)) ]

-- refusals with different numbers differ
number : Option Refusal → ℕ
number None = 0
number (Some e) = number_of e

seven : (a b c d : Bool) → cond a (Some NotAnItem) (cond b (Some NotFirst) (cond c (Some IndexTooLarge) (cond d (Some TableFull) None))) ≡ Some IndexTooLarge → c ≡ true
unfolding number
seven true b c d e = let f = ap number e in absurd (omega (arith, f))
seven false true c d e = let f = ap number e in absurd (omega (arith, f))
seven false false true d e = refl
seven false false false true e = let f = ap number e in absurd (omega (arith, f))
seven false false false false e = let f = ap number e in absurd (omega (arith, f))

pub index_never : IndexNever
index_never m law calls call e =
    let t = lowered m new calls in
    let few = in_limits t (limits_stand m calls) in
    let nodes = (law-stands m law).few_nodes in
    let a = after-count small m t call in
    let b = after-count big m t call in
    small-index (plus no_ids (after m t call).entries) (omega (arith, a, nodes, few.0)) (omega (arith, b, nodes, few.1))
    (seven (not_an_item m call) (not_first t call) (index_too_large (plus no_ids (after m t call).entries)) (table_full (after m t call)) e)

-- one node without siblings
placed_one : (m : Meaning) (a : Counts) (x : NodeRef) (inside : Entries) (r : Option Record) → length (ids (placed m a x inside (λ n. empty) r)) ≤ 1
placed_one m a x inside None = omega arith
placed_one m a x inside (Some r) = omega arith

one-node : (m : Meaning) (a : Counts) (i : ℕ) (x : Node) (children : Siblings) → length (ids (entries_from m a i (node x children none))) ≤ 1
one-node m a i x children =
    let here : NodeRef = record { number = i; node = x } in
    let inside = cond (has_items x) (entries_from m a (i + 1) children) empty in
    placed_one m a here inside (record_of m here (ids inside))

one-tree : (m : Meaning) (a : Counts) (i : ℕ) (o : Option Node) → lawful m ≡ true → node_at m i ≡ o → length (ids (entries_from m a i (alone m.nodes i o))) ≤ 1
one-tree m a i None law e = omega arith
one-tree m a i (Some x) law e =
    subst (λ t. length (ids (entries_from m a i t)) ≤ 1) (sym (between_alone m i x law e)) (one-node m a i x (between m.nodes (i + 1) x.end))

pub one-item : OneItem
one-item m before n law = one-tree m (plus no_ids before) n (node_at m n) law refl
