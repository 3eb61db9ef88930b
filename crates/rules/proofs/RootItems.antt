-- Root lowering brings what is brought item by item.
use Rattle.std.proofs.Common.{◌≡◌, ℕ, ◌+◌, ◌<◌, ◌≤◌, true, false, cond, eqb, List, ◌∷◌, length, get_or, Some, None, Option, sym, refl, ap, ◌∙◌, arith}
use Rattle.std.proofs.lemmas.Bool.{cond_both, eqb-true, false≢true, false_from_ne_true}
use Rattle.syntax.proofs.Fronts.{at_in}
use Rattle.syntax.proofs.Grouping.{between_any}
use Rattle.syntax.proofs.Lawfulness.{law-stands}
use Rattle.syntax.specs.Children.{numbered, children}
use Rattle.syntax.specs.Kinds.{is_item}
use Rattle.syntax.specs.Meaning.{Meaning, node_at}
use Rattle.syntax.specs.Trees.{Siblings, none, node, Fill, between}
use Rattle.syntax.specs.declared.node.Node.{Node}
use Rattle.syntax.specs.declared.walk.NodeRef.{NodeRef}
use Rattle.rules.proofs.Apart.{plus-followed}
use Rattle.rules.proofs.Local.{split}
use Rattle.rules.specs.Consequences.{item_numbers, one_by_one, RootIsItems}
use Rattle.rules.specs.Entries.{Record, record_of, has_items, Entries, empty, entry, ids, followed}
use Rattle.rules.specs.Inventory.{Counts, plus, no_ids, placed, entries_from, alone, node_tree, below, root_items}
use Rattle.rules.specs.Runs.{item, appended}

followed-empty : (es : Entries) → followed es empty ≡ es
followed-empty empty = refl
followed-empty (entry e inside later) = ap (entry e inside) (followed-empty later)

followed_assoc : (es fs gs : Entries) → followed (followed es fs) gs ≡ followed es (followed fs gs)
followed_assoc empty fs gs = refl
followed_assoc (entry e inside later) fs gs = ap (entry e inside) (followed_assoc later fs gs)

-- an item by itself, and then those after it
placed_split : (m : Meaning) (a : Counts) (x : NodeRef) (inside : Entries) (later : Counts → Entries) (r : Option Record)
    → placed m a x inside later r ≡ followed (placed m a x inside (λ n. empty) r) (later (plus a (placed m a x inside (λ n. empty) r)))
placed_split m a x inside later None = refl
placed_split m a x inside later (Some r) = refl

pub entries_split : (m : Meaning) (a : Counts) (i : ℕ) (x : Node) (children later : Siblings)
    → entries_from m a i (node x children later) ≡ followed (entries_from m a i (node x children none)) (entries_from m (plus a (entries_from m a i (node x children none))) x.end later)
entries_split m a i x children later =
    let here : NodeRef = record { number = i; node = x } in
    let inside = cond (has_items x) (entries_from m a (i + 1) children) empty in
    placed_split m a here inside (λ n. entries_from m n x.end later) (record_of m here (ids inside))

-- a kind that is no item's
not-kind : (k n : ℕ) → is_item k ≡ false → is_item n ≡ true → eqb k n ≡ false
not-kind k n h is-item = false_from_ne_true (eqb k n) (λ e. false≢true (sym h ∙ (ap is_item (eqb-true k n e) ∙ is-item)))

pub no_item : (m : Meaning) (x : NodeRef) (inside : List ℕ) → is_item x.node.kind ≡ false → record_of m x inside ≡ None
no_item m x inside h =
    let k = x.node.kind in
    let a = not-kind k 10 h refl in
    let b = not-kind k 11 h refl in
    let c = not-kind k 12 h refl in
    let d = not-kind k 13 h refl in
    let e = not-kind k 14 h refl in
    let f = not-kind k 15 h refl in
    let g = not-kind k 16 h refl in
    let i = not-kind k 17 h refl in
    let j = not-kind k 18 h refl in
    let l = not-kind k 19 h refl in
    let n = not-kind k 20 h refl in
    let o = not-kind k 21 h refl in
    let p = not-kind k 22 h refl in
    let q = not-kind k 23 h refl in
    let r = not-kind k 24 h refl in
    let s = not-kind k 25 h refl in
    rw (a, b, c, d, e, f, g, i, j, l, n, o, p, q, r, s) refl

nothing-here : (m : Meaning) (a : Counts) (i : ℕ) (x : Node) (children later : Siblings) → is_item x.kind ≡ false → entries_from m a i (node x children later) ≡ entries_from m a x.end later
nothing-here m a i x children later h =
    let here : NodeRef = record { number = i; node = x } in
    let inside = cond (has_items x) (entries_from m a (i + 1) children) empty in
    ap (placed m a here inside (λ n. entries_from m n x.end later)) (no_item m here (ids inside) h)

pub node-here : (xs : List Node) (i end : ℕ) (x : Node) (children later : Siblings) → end ≤ length xs → node x children later ≡ between xs i end → Fill i end (node x children later) → x ≡ get_or xs i x
node-here xs i end x children later in_List same fill =
    let some : i < end = omega (arith, fill.0, fill.1) in
    let first = same ∙ between_any xs x i end some in_List in
    cc

module _ (m : Meaning) where
  -- the tree of an item among siblings
  tree-here : (i end : ℕ) (x : Node) (children later : Siblings) → end ≤ length m.nodes → node x children later ≡ between m.nodes i end → Fill i end (node x children later) → node_tree m i ≡ node x children none
  tree-here i end x children later in_List same fill =
      let here = node-here m.nodes i end x children later in_List same fill in
      let at_i : node_at m i ≡ Some x = at_in i m.nodes x (omega (arith, fill.0, fill.1)) ∙ ap Some (sym here) in
      ap (alone m.nodes i) at_i ∙ (split m.nodes i end x children later in_List same fill).2

  one_by_one_lem : (t : Siblings) (i end : ℕ) (before : Entries) → end ≤ length m.nodes → t ≡ between m.nodes i end → Fill i end t
      → followed before (entries_from m (plus no_ids before) i t) ≡ one_by_one m before (item_numbers (numbered i t))
  one_by_one_lem none i end before in_List same fill = followed-empty before
  one_by_one_lem (node x children later) i end before in_List same fill =
      let parts = split m.nodes i end x children later in_List same fill in
      cond_both (is_item x.kind) (i ∷ item_numbers (numbered x.end later)) (item_numbers (numbered x.end later))
      (λ ns. followed before (entries_from m (plus no_ids before) i (node x children later)) ≡ one_by_one m before ns)
      (λ _.
      let mine = entries_from m (plus no_ids before) i (node x children none) in
      let whole = entries_split m (plus no_ids before) i x children later in
      let brought : appended m before (item i) ≡ mine = ap (entries_from m (plus no_ids before) i) (tree-here i end x children later in_List same fill) in
      let next = one_by_one_lem later x.end end (followed before mine) in_List parts.1 fill.3 in
      let counts = plus-followed no_ids before mine in
      let left : followed before (entries_from m (plus no_ids before) i (node x children later)) ≡ followed (followed before mine) (entries_from m (plus no_ids (followed before mine)) x.end later) =
      ap (followed before) whole ∙ (sym (followed_assoc before mine (entries_from m (plus (plus no_ids before) mine) x.end later)) ∙ ap (λ n. followed (followed before mine) (entries_from m n x.end later)) (sym counts)) in
      let right : one_by_one m (followed before mine) (item_numbers (numbered x.end later)) ≡ one_by_one m before (i ∷ item_numbers (numbered x.end later)) =
      ap (λ es. one_by_one m (followed before es) (item_numbers (numbered x.end later))) (sym brought) in
      left ∙ (next ∙ right))
      (λ other. ap (followed before) (nothing-here m (plus no_ids before) i x children later other) ∙ one_by_one_lem later x.end end before in_List parts.1 fill.3)

pub root-is-items : RootIsItems
root-is-items m file before law here =
    let p = (law-stands m law).placed 0 file here in
    let items : root_items m ≡ between m.nodes 1 file.end = ap (below m.nodes) here in
    ap (λ t. followed before (entries_from m (plus no_ids before) 1 t)) items ∙ one_by_one_lem m (between m.nodes 1 file.end) 1 file.end before p.below refl p.fill
