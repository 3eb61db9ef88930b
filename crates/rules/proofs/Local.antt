-- The imports of a node depend on its part of the source alone.
use Rattle.std.proofs.Common.{◌≡◌, ℕ, ◌+◌, ◌-◌, ◌<◌, ◌≤◌, List, length, get_or, take, drop, Some, None, Option, sym, refl, ap, ◌∙◌, subst, arith}
use Rattle.std.proofs.lemmas.List.{take-take, drop-drop, drop-take}
use Rattle.std.proofs.lemmas.Bool.{cond_both}
use Rattle.std.specs.Option.{option_map}
use Rattle.syntax.proofs.Grouping.{between_any, between_first, between_none}
use Rattle.syntax.proofs.Lawfulness.{law-stands}
use Rattle.syntax.specs.Children.{numbered, children, first_of, child_of}
use Rattle.syntax.specs.Meaning.{Meaning}
use Rattle.syntax.specs.Table.{is}
use Rattle.syntax.specs.Trees.{Siblings, none, node, Fill, siblings, between}
use Rattle.syntax.specs.declared.kind.SyntaxKind.{SyntaxKind}
use Rattle.syntax.specs.declared.kind.SyntaxKind.TheVariants as kind
use Rattle.syntax.specs.declared.node.Node.{Node}
use Rattle.syntax.specs.declared.walk.NodeRef.{NodeRef}
use Rattle.paths.specs.Reading.{path_of}
use Rattle.rules.specs.Imports.{imports, ImportsLocal}
use Rattle.rules.specs.Uses.{use_path, path_in, use_node_of, use_trees, tree_at, use_tree_of}

-- a part of a part
part_of : (xs : List Node) (a b c d : ℕ) → a ≤ c → c ≤ d → d ≤ b → take (d - c) (drop (c - a) (take (b - a) (drop a xs))) ≡ take (d - c) (drop c xs)
part_of xs a b c d low mid high =
    let n : ℕ = c - a in
    let whole : b - a ≡ n + (b - c) = omega arith in
    let start : a + n ≡ c = omega arith in
    let cut : drop n (take (b - a) (drop a xs)) ≡ take (b - c) (drop c xs) =
    ap (λ k. drop n (take k (drop a xs))) whole ∙ drop-take n (b - c) (drop a xs) ∙ ap (take (b - c)) (drop-drop n a xs ∙ ap (λ k. drop k xs) start) in
    ap (take (d - c)) cut ∙ take-take (d - c) (b - c) (drop c xs) (omega arith)

-- the first of siblings, those below it and those after it
pub split : (xs : List Node) (i end : ℕ) (x : Node) (below later : Siblings) → end ≤ length xs → node x below later ≡ between xs i end → Fill i end (node x below later)
    → (below ≡ between xs (i + 1) x.end) × (later ≡ between xs x.end end) × (between xs i x.end ≡ node x below none)
split xs i end x below later in_List same fill =
    let some : i < end = omega (arith, fill.0, fill.1) in
    let first = same ∙ between_any xs x i end some in_List in
    let here : x ≡ get_or xs i x = cc in
    let up : i < (get_or xs i x).end = subst (λ y. i < y.end) here fill.0 in
    let in_end : (get_or xs i x).end ≤ end = subst (λ y. y.end ≤ end) here fill.1 in
    let whole = same ∙ between_first xs x i end some in_List up in_end in
    let under : below ≡ between xs (i + 1) (get_or xs i x).end = cc in
    let after : later ≡ between xs (get_or xs i x).end end = cc in
    let under-x : below ≡ between xs (i + 1) x.end = under ∙ ap (λ y. between xs (i + 1) y.end) (sym here) in
    let alone = between_first xs x i (get_or xs i x).end up (omega (arith, in_end)) up (omega arith) in
    let back = sym here in
    let alone-x : between xs i x.end ≡ node x below none = ap (λ y. between xs i y.end) here ∙ (alone ∙ (λ k. node (back k) (sym under k) (between_none xs (get_or xs i x).end k))) in
    (under-x, after ∙ ap (λ y. between xs y.end end) (sym here), alone-x)

-- where the first of a kind stands
pub record Stands (xs : List Node) (i end : ℕ) (y : NodeRef) : Type 0 where
  pub low : i ≤ y.number
  pub some : y.number < y.node.end
  pub high : y.node.end ≤ end
  pub fill : Fill y.number y.node.end (between xs y.number y.node.end)

first-stands : (xs : List Node) (k : SyntaxKind) (t : Siblings) (i end : ℕ) (y : NodeRef) → end ≤ length xs → t ≡ between xs i end → Fill i end t → first_of k (numbered i t) ≡ Some y → Stands xs i end y
first-stands xs k none i end y in_List same fill e = let z : ◌≡◌ {A = ℕ} 0 1 = cc in absurd (omega arith)
first-stands xs k (node x below later) i end y in_List same fill e =
    let parts = split xs i end x below later in_List same fill in
    let here : NodeRef = record { number = i; node = x } in
    cond_both (is k x.kind) (Some here) (first_of k (numbered x.end later)) (λ o. o ≡ Some y → Stands xs i end y)
    (λ _ found.
    let same-node : here ≡ y = cc in
    let own : Fill i x.end (node x below none) = (fill.0, omega arith, fill.2, refl) in
    subst (Stands xs i end) same-node (record { low = omega arith; some = fill.0; high = fill.1; fill = subst (Fill i x.end) (sym parts.2) own }))
    (λ _ further.
    let r = first-stands xs k later x.end end y in_List parts.1 fill.3 further in
    record { low = omega (arith, fill.0, r.low); some = r.some; high = r.high; fill = r.fill })
    e

-- two sources with the same nodes from a to before b
module _ (m n : Meaning) (a b : ℕ) (in_List : b ≤ length m.nodes) (same : take (b - a) (drop a m.nodes) ≡ take (b - a) (drop a n.nodes)) where
  same-between : (c d : ℕ) → a ≤ c → c ≤ d → d ≤ b → between m.nodes c d ≡ between n.nodes c d
  same-between c d low mid high =
      let cut : take (d - c) (drop c m.nodes) ≡ take (d - c) (drop c n.nodes) =
      sym (part_of m.nodes a b c d low mid high) ∙ (ap (λ xs. take (d - c) (drop (c - a) xs)) same ∙ part_of n.nodes a b c d low mid high) in
      ap (siblings c) cut

  same-children : (x : NodeRef) → a ≤ x.number → x.number < x.node.end → x.node.end ≤ b → children m x ≡ children n x
  same-children x low some high = ap (numbered (x.number + 1)) (same-between (x.number + 1) x.node.end (omega arith) (omega arith) high)

  same-path : (x : NodeRef) → a ≤ x.number → x.number < x.node.end → x.node.end ≤ b → path_of m x ≡ path_of n x
  same-path x low some high = let e = same-children x low some high in rw e refl

  same-path-in : (o : Option NodeRef) → ((y : NodeRef) → o ≡ Some y → (a ≤ y.number) × (y.number < y.node.end) × (y.node.end ≤ b)) → path_in m o ≡ path_in n o
  same-path-in None h = refl
  same-path-in (Some y) h = let p = h y refl in ap (option_map Some) (same-path y p.0 p.1 p.2)

  -- a node whose children fill its part
  module _ (x : NodeRef) (low : a ≤ x.number) (some : x.number < x.node.end) (high : x.node.end ≤ b) (fill : Fill (x.number + 1) x.node.end (between m.nodes (x.number + 1) x.node.end)) where
    child-stands : (k : SyntaxKind) (y : NodeRef) → child_of k m x ≡ Some y → Stands m.nodes (x.number + 1) x.node.end y
    child-stands k y e = first-stands m.nodes k (between m.nodes (x.number + 1) x.node.end) (x.number + 1) x.node.end y (omega arith) refl fill e

    same-child : (k : SyntaxKind) → child_of k m x ≡ child_of k n x
    same-child k = ap (first_of k) (same-children x low some high)

    same-use-path : use_path m x ≡ use_path n x
    same-use-path =
        let e = same-path-in (child_of kind.Path m x) (λ y h. let s = child-stands kind.Path y h in (omega (arith, s.low), s.some, omega (arith, s.high))) in
        let f : path_in m (child_of kind.Path m x) ≡ path_in n (child_of kind.Path n x) = e ∙ ap (path_in n) (same-child kind.Path) in
        rw f refl

    same-node : use_node_of m x ≡ use_node_of n x
    same-node = let e = same-child kind.Rename in let f = same-use-path in rw (e, f) refl

  same-trees : (t : Siblings) (i end : ℕ) → a ≤ i → end ≤ b → t ≡ between m.nodes i end → Fill i end t → use_trees m i t ≡ use_trees n i t
  same-trees none i end low high is-part fill = refl
  same-trees (node x below later) i end low high is-part fill =
      let here : NodeRef = record { number = i; node = x } in
      let parts = split m.nodes i end x below later (omega arith) is-part fill in
      let e = same-node here low fill.0 (omega (arith, fill.1)) (subst (Fill (i + 1) x.end) parts.0 fill.2) in
      let f = same-trees below (i + 1) x.end (omega arith) (omega (arith, fill.1)) parts.0 fill.2 in
      let g = same-trees later x.end end (omega (arith, fill.0)) high parts.1 fill.3 in
      rw (e, f, g) refl

  same-tree-at : (o : Option NodeRef) → ((y : NodeRef) → o ≡ Some y → Stands m.nodes a b y) → tree_at m o ≡ tree_at n o
  same-tree-at None h = refl
  same-tree-at (Some y) h =
      let s = h y refl in
      let e = same-trees (between m.nodes y.number y.node.end) y.number y.node.end s.low s.high refl s.fill in
      e ∙ ap (use_trees n y.number) (same-between y.number y.node.end s.low (omega (arith, s.some)) s.high)

pub imports_local : ImportsLocal
imports_local m n x law here same =
    let p = (law-stands m law).placed x.number x.node here in
    let a = x.number in
    let b = x.node.end in
    let e = same-tree-at m n a b p.below same (child_of kind.UseTree m x) (λ y h. let s = child-stands m n a b p.below same x (omega arith) p.above (omega arith) p.fill kind.UseTree y h in record { low = omega (arith, s.low); some = s.some; high = s.high; fill = s.fill }) in
    let f : use_tree_of m x ≡ use_tree_of n x = e ∙ ap (tree_at n) (same-child m n a b p.below same x (omega arith) p.above (omega arith) p.fill kind.UseTree) in
    (f, ap imports f)
