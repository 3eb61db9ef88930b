-- What each child of a node is, by the law.
use Rattle.std.proofs.Common.{◌≡◌, ℕ, ◌+◌, ◌<◌, ◌≤◌, Bool, true, false, cond, List, [], ◌∷◌, length, get_or, Some, sym, refl, ap, ◌∙◌, subst, ⊎_elim, arith}
use Rattle.std.proofs.lemmas.Bool.{false≢true, and_parts, leb-true, eqb-true, cases_Bool, cond-false}
use Rattle.std.specs.List.{AllByRecursion}
use Rattle.syntax.specs.declared.kind.SyntaxKind.TheVariants.{Vis, Path, Segment, UseTree, Rename, Field, Attr}
use Rattle.syntax.specs.declared.node.Node.{Node}
use Rattle.syntax.specs.declared.walk.NodeRef.{NodeRef}
use Rattle.syntax.specs.Children.{numbered, children, StandsIn, Row}
use Rattle.syntax.specs.Kinds.{number_of, is_item}
use Rattle.syntax.specs.Law.{sound, lawful}
use Rattle.syntax.specs.Meaning.{Meaning, node_at}
use Rattle.syntax.specs.Standing.{Taken}
use Rattle.syntax.specs.Table.{is, mark_fits, takes}
use Rattle.syntax.specs.Trees.{Siblings, none, node, Fill, between}
use Rattle.syntax.proofs.Fronts.{at_in}
use Rattle.syntax.proofs.Grouping.{between_any}
use Rattle.syntax.proofs.Lawfulness.{node-placed}
use Rattle.syntax.proofs.Rows.{row_first, row_splits, stands-row}

-- y stands below its parent, which takes it
pub record Child (m : Meaning) (parent y : NodeRef) : Type 0 where
  pub stands : StandsIn m y
  pub after : parent.number < y.number
  pub within : y.node.end ≤ parent.node.end
  pub sound_here : sound (length m.texts) y.node ≡ true
  pub taken : takes parent.node.kind parent.node.mark y.node.kind ≡ true

siblings_each : (m : Meaning) (parent : NodeRef) (t : Siblings) (i : ℕ) → t ≡ between m.nodes i parent.node.end → Row m i parent.node.end → Taken (length m.texts) parent.node t → parent.number < i → AllByRecursion (Child m parent) (numbered i t)
siblings_each m parent none i same siblings taken after = tt
siblings_each m parent (node x children later) i same siblings taken after =
    let xs = m.nodes in
    let end = parent.node.end in
    let fill = subst (Fill i end) (sym same) siblings.fill in
    let some : i < end = omega (arith, fill.0, fill.1) in
    let any = same ∙ between_any xs x i end some siblings.within in
    let here : get_or xs i x ≡ x = cc in
    let stands : node_at m i ≡ Some x = at_in i xs x (omega (arith, siblings.within)) ∙ ap Some here in
    let rest : Row m x.end end = (row_first m i end x siblings some stands).2.rest in
    let whole = same ∙ row_splits m i end x siblings some stands in
    let same-later : later ≡ between xs x.end end = cc in
    (record { stands = stands; after = after; within = fill.1; sound_here = taken.0; taken = taken.1 }, siblings_each m parent later x.end same-later rest taken.3 (omega (arith, fill.0)))

-- every child stands in the source, is sound, and is one that its parent takes
pub children_each : (m : Meaning) (x : NodeRef) → lawful m ≡ true → StandsIn m x → AllByRecursion (Child m x) (children m x)
children_each m x law e =
    siblings_each m x (between m.nodes (x.number + 1) x.node.end) (x.number + 1) refl (stands-row m x law e) (node-placed m law x.number x.node e).taken (omega arith)

each_so : (P Q : NodeRef → Type 0) (xs : List NodeRef) → ((y : NodeRef) → P y → Q y) → AllByRecursion P xs → AllByRecursion Q xs
each_so P Q [] so all = tt
each_so P Q (x ∷ xs) so all = (so x all.0, each_so P Q xs so all.1)

not-here : (b c : Bool) → cond b false c ≡ true → c ≡ true
not-here true c h = absurd (false≢true h)
not-here false c h = h

-- a path takes segments only
path-takes : (mark c : ℕ) → takes (number_of Path) mark c ≡ true → c ≡ number_of Segment
path-takes mark c h =
    let rest = not-here (is UseTree c) _ (not-here (is Rename c) _ (not-here (is Path c) _ (not-here (is Vis c) _ (not-here (is Attr c) _ h)))) in
    ⊎_elim
    (eqb-true c (number_of Segment))
    (λ (other : is Segment c ≡ false). absurd (false≢true (not-here (is_item c) false (not-here (is Field c) _ (sym (cond-false (is Segment c) _ _ other) ∙ rest)))))
    (cases_Bool (is Segment c))

segment_mark : (texts : ℕ) (x : Node) → x.kind ≡ number_of Segment → sound texts x ≡ true → x.mark ≤ 4
unfolding sound
segment_mark texts x e h =
    let fits = (and_parts (mark_fits x.kind x.mark) _ h).0 in
    leb-true x.mark 4 (sym (ap (λ k. mark_fits k x.mark) e) ∙ fits)

-- so the children of a path are segments, with a mark of theirs
pub path_segments : (m : Meaning) (x : NodeRef) → lawful m ≡ true → StandsIn m x → x.node.kind ≡ number_of Path → AllByRecursion (λ y. (y.node.kind ≡ number_of Segment) × (y.node.mark ≤ 4)) (children m x)
path_segments m x law e kind =
    each_so (Child m x) (λ y. (y.node.kind ≡ number_of Segment) × (y.node.mark ≤ 4)) (children m x)
    (λ y child.
    let is-segment = path-takes x.node.mark y.node.kind (subst (λ k. takes k x.node.mark y.node.kind ≡ true) kind child.taken) in
    (is-segment, segment_mark (length m.texts) y.node is-segment child.sound_here))
    (children_each m x law e)
