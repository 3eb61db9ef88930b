-- Rows of siblings: the first of one, and what the law says of a node's children.
use Rattle.std.proofs.Common.{◌≡◌, ℕ, zero, suc, ◌+◌, ◌<◌, ◌≤◌, true, leb, ◌⊎◌, List, [], ◌∷◌, length, get_or, Some, None, sym, refl, ap, ◌∙◌, subst, ⊎_elim, not-suc-le-zero, arith}
use Rattle.std.proofs.lemmas.Bool.{false≢true, and_parts, leb-true, eq-eqb, cond-true}
use Rattle.syntax.specs.declared.kind.SyntaxKind.TheVariants.{Path}
use Rattle.syntax.specs.declared.node.Node.{Node}
use Rattle.syntax.specs.declared.walk.NodeRef.{NodeRef}
use Rattle.syntax.specs.Children.{numbered, row, children, StandsIn, Row, Leads}
use Rattle.syntax.specs.Kinds.{number_of}
use Rattle.syntax.specs.Law.{place_after, are_children, lawful}
use Rattle.syntax.specs.Meaning.{Meaning, at, node_at}
use Rattle.syntax.specs.Table.{is, count_fits}
use Rattle.syntax.specs.Trees.{Siblings, none, node, Fill, between}
use Rattle.syntax.proofs.Fronts.{at_some, at_in}
use Rattle.syntax.proofs.Grouping.{between_any, between_first, between_none}
use Rattle.syntax.proofs.Lawfulness.{first-kept, node-placed, law_parts}

fill_none : (t : Siblings) (i end : ℕ) → Fill i end t → end ≤ i → t ≡ none
fill_none none i end fill past = refl
fill_none (node x children later) i end fill past = absurd (omega (arith, fill.0, fill.1))

pub row-none : (m : Meaning) (i end : ℕ) → Row m i end → end ≤ i → row m i end ≡ []
row-none m i end r past = ap (numbered i) (fill_none (between m.nodes i end) i end r.fill past)

absent : (xs : List Node) (i : ℕ) → i < length xs → at xs i ≡ None → ⊥
absent [] i less e = not-suc-le-zero less
absent (x ∷ xs) i less e = let z : ◌≡◌ {A = ℕ} 0 1 = cc (at_in i (x ∷ xs) x less) in omega arith

-- a row that is not empty has a node
pub row-some : (m : Meaning) (i end : ℕ) → Row m i end → i < end → node_at m i ≡ None → ⊥
row-some m i end r some e = absent m.nodes i (omega (arith, r.within)) e

pub row_splits : (m : Meaning) (i end : ℕ) (x : Node) → Row m i end → i < end → node_at m i ≡ Some x → between m.nodes i end ≡ node x (between m.nodes (i + 1) x.end) (between m.nodes x.end end)
row_splits m i end x r some e =
    let xs = m.nodes in
    let here : get_or xs i x ≡ x = (at_some i xs x e).1 in
    let any = subst (Fill i end) (between_any xs x i end some r.within) r.fill in
    let up : i < (get_or xs i x).end = any.0 in
    let low : (get_or xs i x).end ≤ end = any.1 in
    between_first xs x i end some r.within up low ∙ ap (λ (y : Node). node y (between xs (i + 1) y.end) (between xs y.end end)) here

-- the node at the start of a row is its first
pub row_first : (m : Meaning) (i end : ℕ) (x : Node) → Row m i end → i < end → node_at m i ≡ Some x → (i < x.end) × (x.end ≤ end) × Leads m i end (record { number = i; node = x })
row_first m i end x r some e =
    let whole = row_splits m i end x r some e in
    let parts = subst (Fill i end) whole r.fill in
    (parts.0, parts.1, record { stands = e; rest = record { fill = parts.3; within = r.within }; first = ap (numbered i) whole })

-- so none has an end outside of the row
pub row-outside : (m : Meaning) (i end : ℕ) (x : Node) → i < end → node_at m i ≡ Some x → (x.end ≤ i) ⊎ ((i < x.end) × (end < x.end)) → Row m i end → row m i end ≡ []
row-outside m i end x some e outside r =
    let f = row_first m i end x r some e in
    ⊎_elim (λ (low : x.end ≤ i). absurd (omega (arith, f.0))) (λ (h : (i < x.end) × (end < x.end)). absurd (omega (arith, f.1, h.1))) outside

-- the children of a node are a row
pub stands-row : (m : Meaning) (x : NodeRef) → lawful m ≡ true → StandsIn m x → Row m (x.number + 1) x.node.end
stands-row m x law e = let placed = node-placed m law x.number x.node e in record { fill = placed.fill; within = placed.below }

pub stands-low : (m : Meaning) (x : NodeRef) → lawful m ≡ true → StandsIn m x → x.number < 4096
stands-low m x law e = omega (arith, (law_parts m law).1, (at_some x.number m.nodes x.node e).0)

-- a walk over children begins at the number after their parent's
pub children-start : (m : Meaning) (x : NodeRef) (i : ℕ) → lawful m ≡ true → (x.number < 4294967295 → i ≡ x.number + 1) → StandsIn m x → Row m i x.node.end × (row m i x.node.end ≡ children m x)
children-start m x i law next e =
    let at_next : i ≡ x.number + 1 = next (omega (arith, stands-low m x law e)) in
    (subst (λ k. Row m k x.node.end) (sym at_next) (stands-row m x law e), ap (λ k. row m k x.node.end) at_next)

-- children that keep the law are as many as the table allows
kept-count : (texts : ℕ) (parent : Node) (least count levels i : ℕ) (t : Siblings) → are_children texts parent least count levels i t ≡ true → count_fits parent.kind parent.mark (count + length (numbered i t)) ≡ true
kept-count texts parent least count levels i none h = let e : count + 0 ≡ count = omega arith in subst (λ n. count_fits parent.kind parent.mark n ≡ true) (sym e) h
kept-count texts parent least count zero i (node x children later) h = absurd (false≢true h)
kept-count texts parent least count (suc levels) i (node x children later) h =
    let rest = kept-count texts parent (place_after parent x) (count + 1) (suc levels) x.end later (first-kept texts parent least count levels i x children later h).3 in
    let e : count + 1 + length (numbered x.end later) ≡ count + length (numbered i (node x children later)) = omega arith in
    subst (λ n. count_fits parent.kind parent.mark n ≡ true) e rest

path-fits : (kind mark n : ℕ) → kind ≡ number_of Path → count_fits kind mark n ≡ true → (1 ≤ n) × (n ≤ 64)
path-fits kind mark n e h =
    let parts = and_parts (leb 1 n) (leb n 64) (sym (cond-true (is Path kind) _ _ (eq-eqb kind (number_of Path) e)) ∙ h) in
    (leb-true 1 n parts.0, leb-true n 64 parts.1)

-- a path has 1 to 64 children
pub path-count : (m : Meaning) (x : NodeRef) → lawful m ≡ true → StandsIn m x → x.node.kind ≡ number_of Path → (1 ≤ length (children m x)) × (length (children m x) ≤ 64)
path-count m x law e kind =
    let placed = node-placed m law x.number x.node e in
    let fits = kept-count (length m.texts) x.node 0 0 placed.levels (x.number + 1) (between m.nodes (x.number + 1) x.node.end) placed.kept in
    let count = path-fits x.node.kind x.node.mark (0 + length (children m x)) kind fits in
    (omega (arith, count.0), omega (arith, count.1))

-- a node with what is below it, by itself
pub between_alone : (m : Meaning) (i : ℕ) (x : Node) → lawful m ≡ true → node_at m i ≡ Some x → between m.nodes i x.end ≡ node x (between m.nodes (i + 1) x.end) none
between_alone m i x law e =
    let xs = m.nodes in
    let placed = node-placed m law i x e in
    let here : get_or xs i x ≡ x = (at_some i xs x e).1 in
    let up : i < (get_or xs i x).end = subst (λ y. i < y.end) (sym here) placed.above in
    let low : (get_or xs i x).end ≤ x.end = subst (λ y. y.end ≤ x.end) (sym here) (omega arith) in
    between_first xs x i x.end placed.above placed.below up low
    ∙ ap (λ (y : Node). node y (between xs (i + 1) y.end) (between xs y.end x.end)) here
    ∙ ap (node x (between xs (i + 1) x.end)) (between_none xs x.end)
