-- What the law of a source gives.
use Rattle.std.proofs.Common.{◌≡◌, ℕ, zero, suc, ◌+◌, ◌<◌, ◌≤◌, true, false, List, [], ◌∷◌, length, get_or, Some, sym, refl, ap, ◌∙◌, subst, ⊎_elim, le_of_suc-le-suc, not-suc-le-zero, arith}
use Rattle.std.specs.Str.{bytes_eq}
use Rattle.std.proofs.lemmas.Slice.Eq.{bytes_eq-Decides}
use Rattle.std.proofs.lemmas.List.{take_rest}
use Rattle.std.proofs.lemmas.Bool.{both_ways, false≢true, and_parts, or_parts, not-true, eqb-true, leb-true, cases_lt, cases_order}
use Rattle.syntax.specs.declared.node.Node.{Node}
use Rattle.syntax.specs.Meaning.{Meaning, at, node_at}
use Rattle.syntax.specs.Table.{takes}
use Rattle.syntax.specs.Trees.{Siblings, none, node, size, height, listed, Fill, siblings, between}
use Rattle.syntax.specs.Law.{sound, is_child, place_after, are_children, is_file, lawful_nodes, among, is_text, lawful_texts, lawful}
use Rattle.syntax.specs.Standing.{Taken, FileTree, Placed, Distinct, LawStands}
use Rattle.syntax.proofs.Fronts.{at_some}
use Rattle.syntax.proofs.Grouping.{between_any, between_first, listed-siblings, size-siblings}
use Rattle.syntax.proofs.Listing.{listed-one}

-- children that keep the law
child_parts : (texts : ℕ) (parent : Node) (least : ℕ) (x : Node) → is_child texts parent least x ≡ true → (sound texts x ≡ true) × (takes parent.kind parent.mark x.kind ≡ true)
unfolding is_child
child_parts texts parent least x h = let p = and_parts _ _ h in (p.0, (and_parts _ _ p.1).0)

-- the first of them, those below it and those after it
pub first-kept : (texts : ℕ) (parent : Node) (least count levels i : ℕ) (x : Node) (children later : Siblings) → are_children texts parent least count (suc levels) i (node x children later) ≡ true
    → (x.end ≡ i + 1 + size children) × (is_child texts parent least x ≡ true) × (are_children texts x 0 0 levels (i + 1) children ≡ true) × (are_children texts parent (place_after parent x) (count + 1) (suc levels) x.end later ≡ true)
first-kept texts parent least count levels i x children later h =
    let p = and_parts _ _ h in
    let q = and_parts _ _ p.1 in
    let r = and_parts _ _ q.1 in
    (eqb-true x.end _ p.0, q.0, r.0, r.1)

pub children-stand : (texts : ℕ) (parent : Node) (least count levels i : ℕ) (t : Siblings) → are_children texts parent least count levels i t ≡ true → Fill i (i + size t) t × (height t ≤ levels) × Taken texts parent t
children-stand texts parent least count levels i none h = (omega arith, omega arith, tt)
children-stand texts parent least count zero i (node x children later) h = absurd (false≢true h)
children-stand texts parent least count (suc levels) i (node x children later) h =
    let k = first-kept texts parent least count levels i x children later h in
    let child = child_parts texts parent least x k.1 in
    let below = children-stand texts x 0 0 levels (i + 1) children k.2 in
    let after = children-stand texts parent (place_after parent x) (count + 1) (suc levels) x.end later k.3 in
    let all : x.end + size later ≡ i + size (node x children later) = omega (arith, k.0) in (
      (omega (arith, k.0), omega (arith, k.0), subst (λ e. Fill (i + 1) e children) (sym k.0) below.0, subst (λ e. Fill x.end e later) all after.0),
      omega (arith, below.1, after.1),
      (child.0, child.1, below.2, after.2),
    )

-- the tree of a file
pub record Root (texts : ℕ) (t : Siblings) : Type 0 where
  pub root : Node
  pub children : Siblings
  pub tree : t ≡ node root children none
  pub kind : root.kind ≡ 0
  pub last : root.end ≡ size t
  pub sound_root : sound texts root ≡ true
  pub fill : Fill 1 root.end children
  pub levels : height children ≤ 40
  pub taken : Taken texts root children
  pub kept : are_children texts root 0 0 40 1 children ≡ true

file-root : (texts : ℕ) (t : Siblings) → is_file texts t ≡ true → Root texts t
file-root texts none h = absurd (false≢true h)
file-root texts (node x children none) h =
    let p = and_parts _ _ h in
    let q = and_parts _ _ p.1 in
    let r = and_parts _ _ q.1 in
    let end = eqb-true x.end _ q.0 in
    let below = children-stand texts x 0 0 40 1 children r.1 in
    record { root = x; children = children; tree = refl; kind = eqb-true x.kind 0 p.0; last = omega arith; sound_root = r.0; fill = subst (λ e. Fill 1 e children) (sym end) below.0; levels = below.1; taken = below.2; kept = r.1 }
file-root texts (node x children (node y more later)) h = absurd (false≢true h)

pub nodes-root : (texts : ℕ) (xs : List Node) → lawful_nodes texts xs ≡ true → Root texts (siblings 0 xs)
unfolding lawful_nodes
nodes-root texts xs h = file-root texts (siblings 0 xs) h

-- the first node of a list is the first of its tree
first_of : (xs : List Node) (x : Node) (children later : Siblings) → siblings 0 xs ≡ node x children later → at xs 0 ≡ Some x
first_of [] x children later e = let z : ◌≡◌ {A = ℕ} 0 1 = cc in absurd (omega arith)
first_of (y ∷ xs) x children later e = let same : y ≡ x = cc in ap Some same

-- the node of every number
module _ (m : Meaning) (d : Node) where
  abbrev xs : List Node
  xs = m.nodes

  abbrev texts : ℕ
  texts = length m.texts

  pub reach : (parent : Node) (t : Siblings) (least count levels i end : ℕ) → levels ≤ 40 → end ≤ length xs → t ≡ between xs i end → Fill i end t → are_children texts parent least count levels i t ≡ true → (k : ℕ) → i ≤ k → k < end → Placed m k (get_or xs k d)
  reach parent none least count levels i end few in_List same fill kept k low high = absurd (omega arith)
  reach parent (node x children later) least count zero i end few in_List same fill kept k low high = absurd (false≢true kept)
  reach parent (node x children later) least count (suc levels) i end few in_List same fill kept k low high =
      let some : i < end = omega (arith, fill.0, fill.1) in
      let first = same ∙ between_any xs d i end some in_List in
      let here : x ≡ get_or xs i d = cc in
      let up : i < (get_or xs i d).end = subst (λ y. i < y.end) here fill.0 in
      let in_end : (get_or xs i d).end ≤ end = subst (λ y. y.end ≤ end) here fill.1 in
      let whole = same ∙ between_first xs d i end some in_List up in_end in
      let below : children ≡ between xs (i + 1) (get_or xs i d).end = cc in
      let after : later ≡ between xs (get_or xs i d).end end = cc in
      let below-x : children ≡ between xs (i + 1) x.end = below ∙ ap (λ y. between xs (i + 1) y.end) (sym here) in
      let after-x : later ≡ between xs x.end end = after ∙ ap (λ y. between xs y.end end) (sym here) in
      let parts = first-kept texts parent least count levels i x children later kept in
      let at_x : Placed m i x = record {
        above = fill.0;
        below = omega (arith, fill.1);
        sound_here = (child_parts texts parent least x parts.1).0;
        fill = subst (Fill (i + 1) x.end) below-x fill.2;
        taken = subst (Taken texts x) below-x (children-stand texts x 0 0 levels (i + 1) children parts.2).2;
        levels = levels;
        few_levels = omega arith;
        kept = subst (λ t. are_children texts x 0 0 levels (i + 1) t ≡ true) below-x parts.2;
      } in
      let in-later : x.end ≤ k → Placed m k (get_or xs k d) = λ past. reach parent later (place_after parent x) (count + 1) (suc levels) x.end end few in_List after-x fill.3 parts.3 k past high in
      ⊎_elim
      (λ (e : k ≡ i). subst (λ n. Placed m n (get_or xs n d)) (sym e) (subst (Placed m i) here at_x))
      (⊎_elim
      (λ (l : k < i). absurd (omega arith))
      (λ (l : i < k). ⊎_elim
      (λ (b : k < x.end). reach x children 0 0 levels (i + 1) x.end (omega arith) (omega (arith, fill.1)) below-x fill.2 parts.2 k (omega arith) b)
      in-later
      (cases_lt k x.end)))
      (cases_order k i)

-- texts
text_parts : (t : List ℕ) (later : List (List ℕ)) → is_text t later ≡ true → (1 ≤ length t) × (length t ≤ 255) × (among t later ≡ false)
unfolding is_text
text_parts t later h =
    let p = and_parts _ _ h in
    let q = and_parts _ _ p.1 in
    (leb-true _ _ p.0, leb-true _ _ q.0, not-true _ q.1)

not-among : (t : List ℕ) (us : List (List ℕ)) (k : ℕ) → among t us ≡ false → k < length us → t ≡ get_or us k [] → ⊥
not-among t [] k h less e = not-suc-le-zero less
not-among t (u ∷ us) zero h less e = both_ways (bytes_eq t u) (or_parts (bytes_eq t u) (among t us) h).0 ((bytes_eq-Decides t u).1 e)
not-among t (u ∷ us) (suc k) h less e = not-among t us k (or_parts (bytes_eq t u) (among t us) h).1 (le_of_suc-le-suc less) e

text_lengths : (ts : List (List ℕ)) → lawful_texts ts ≡ true → (k : ℕ) → k < length ts → (1 ≤ length (get_or ts k [])) × (length (get_or ts k []) ≤ 255)
text_lengths [] h k less = absurd (not-suc-le-zero less)
text_lengths (t ∷ ts) h zero less = let p = text_parts t ts (and_parts _ _ h).0 in (p.0, p.1)
text_lengths (t ∷ ts) h (suc k) less = text_lengths ts (and_parts (is_text t ts) _ h).1 k (le_of_suc-le-suc less)

texts-apart : (ts : List (List ℕ)) → lawful_texts ts ≡ true → (j k : ℕ) → j < k → k < length ts → get_or ts j [] ≡ get_or ts k [] → ⊥
texts-apart [] h j k before less e = not-suc-le-zero less
texts-apart (t ∷ ts) h j zero before less e = not-suc-le-zero before
texts-apart (t ∷ ts) h zero (suc k) before less e = not-among t ts k (text_parts t ts (and_parts _ _ h).0).2 (le_of_suc-le-suc less) e
texts-apart (t ∷ ts) h (suc j) (suc k) before less e = texts-apart ts (and_parts (is_text t ts) _ h).1 j k (le_of_suc-le-suc before) (le_of_suc-le-suc less) e

pub distinct : (ts : List (List ℕ)) → lawful_texts ts ≡ true → Distinct ts
distinct ts h = record { some = λ k less. (text_lengths ts h k less).0; short = λ k less. (text_lengths ts h k less).1; apart = texts-apart ts h }

-- the whole law
pub law_parts : (m : Meaning) → lawful m ≡ true → (1 ≤ length m.nodes) × (length m.nodes ≤ 4096) × (length m.texts ≤ 1024) × (lawful_texts m.texts ≡ true) × (lawful_nodes (length m.texts) m.nodes ≡ true)
unfolding lawful
law_parts m h =
    let p = and_parts _ _ h in
    let q = and_parts _ _ p.1 in
    let r = and_parts _ _ q.1 in
    let s = and_parts _ _ r.1 in
    (leb-true _ _ p.0, leb-true _ _ q.0, leb-true _ _ r.0, s.0, s.1)

module _ (m : Meaning) (h : lawful m ≡ true) where
  root-of : Root (length m.texts) (siblings 0 m.nodes)
  root-of = nodes-root (length m.texts) m.nodes (law_parts m h).4

  abbrev root : Node
  root = root-of.root

  first-node : node_at m 0 ≡ Some root
  first-node = first_of m.nodes root root-of.children none root-of.tree

  last-node : root.end ≡ length m.nodes
  last-node = root-of.last ∙ size-siblings 0 m.nodes

  all-fill : Fill 0 (length m.nodes) (node root root-of.children none)
  all-fill = (omega (arith, last-node, (law_parts m h).0), omega (arith, last-node), root-of.fill, last-node)

  listing : listed (node root root-of.children none) ≡ m.nodes
  listing = ap listed (sym root-of.tree) ∙ listed-siblings 0 m.nodes

  pub file-tree : FileTree m
  file-tree = record {
    root = root;
    children = root-of.children;
    first = first-node;
    kind = root-of.kind;
    last = last-node;
    tree = root-of.tree;
    fill = root-of.fill;
    levels = root-of.levels;
    taken = root-of.taken;
    kept = root-of.kept;
    listing = listing;
    only = λ t end fill same. listed-one 0 end (length m.nodes) t (node root root-of.children none) fill all-fill (same ∙ sym listing);
  }

  -- the root's children, by their numbers
  children-between : root-of.children ≡ between m.nodes 1 root.end
  children-between =
      let xs = m.nodes in
      let here : get_or xs 0 root ≡ root = (at_some 0 xs root first-node).1 in
      let some : 0 < length xs = (law_parts m h).0 in
      let end : (get_or xs 0 root).end ≡ length xs = ap (λ (y : Node). y.end) here ∙ last-node in
      let whole = sym root-of.tree ∙ sym (ap (siblings 0) (take_rest xs 0)) ∙ between_first xs root 0 (length xs) some (omega arith) (omega arith) (omega arith) in
      let below : root-of.children ≡ between xs 1 (get_or xs 0 root).end = cc in
      below ∙ ap (λ (y : Node). between xs 1 y.end) here

  root-placed : Placed m 0 root
  root-placed = record { above = all-fill.0; below = all-fill.1; sound_here = root-of.sound_root; fill = subst (Fill 1 root.end) children-between root-of.fill; taken = subst (Taken (length m.texts) root) children-between root-of.taken; levels = 40; few_levels = omega arith; kept = subst (λ t. are_children (length m.texts) root 0 0 40 1 t ≡ true) children-between root-of.kept }

  pub node-placed : (i : ℕ) (x : Node) → node_at m i ≡ Some x → Placed m i x
  node-placed zero x e = let same : root ≡ x = cc (first-node) in subst (Placed m 0) same root-placed
  node-placed (suc i) x e =
      let there = at_some (suc i) m.nodes x e in
      subst (Placed m (suc i)) there.1 (reach m x root root-of.children 0 0 40 1 root.end (omega arith) all-fill.1 children-between root-of.fill root-of.kept (suc i) (omega arith) (omega (arith, last-node, there.0)))

pub law-stands : LawStands
law-stands m h = record { file = file-tree m h; placed = node-placed m h; few_nodes = (law_parts m h).1; few_texts = (law_parts m h).2; texts = distinct m.texts (law_parts m h).3 }
