use Rattle.std.proofs.Common.{sym, ◌∙◌, inl, inr, ap, arith}
use Rattle.syntax.specs.Table.{count_fits}
use Rattle.forms.specs.Tables.{no_node}
use Rattle.forms.proofs.LawSteps.{bad-levels, bad_end, bad_child, bad-below, next_child, children-none}
use Rattle.forms.proofs.law.+are_children.Goals as goal
use Rattle.forms.proofs.law.+are_children.Goals.{then-levels-eq0-via-then-levels-eq0, then-levels-eq0-via-else-levels-eq0+then-node-at, then-levels-eq0-via-else-levels-eq0+else-node-at+then-node-end}

pub returns-then-levels-eq0 : goal.returns-then-levels-eq0
returns-then-levels-eq0 t c =
    let l = c.loop-at in
    sym (l.invariant.2 ∙ elim c.then-levels-eq0.branch [
      | then-levels-eq0-via-then-levels-eq0 w ↦ bad-levels c.args.texts c.args.parent.now.node l.least l.count c.args.nodes.now no_node l.at c.args.parent.now.node.end c.loop-at-test.true c.requires.1 c.args.levels w.if-levels-eq0.true
      | then-levels-eq0-via-else-levels-eq0+then-node-at w ↦ bad_end c.args.texts c.args.parent.now.node l.least l.count c.args.nodes.now no_node l.at c.args.parent.now.node.end c.loop-at-test.true c.requires.1 c.args.levels (inl w.if-node-at.true)
      | then-levels-eq0-via-else-levels-eq0+else-node-at+then-node-end w ↦ bad_end c.args.texts c.args.parent.now.node l.least l.count c.args.nodes.now no_node l.at c.args.parent.now.node.end c.loop-at-test.true c.requires.1 c.args.levels (inr w.if-node-end.true)
    ])

pub returns-in_default : goal.returns-in_default
returns-in_default t c =
    let l = c.loop-at in
    sym (l.invariant.2 ∙ bad_child c.args.texts c.args.parent.now.node l.least l.count c.args.nodes.now no_node l.at c.args.parent.now.node.end c.loop-at-test.true c.requires.1 c.args.levels c.in_default.ensures)

pub returns-then-not-are_children : goal.returns-then-not-are_children
returns-then-not-are_children t c =
    let l = c.loop-at in
    sym (l.invariant.2 ∙ bad-below c.args.texts c.args.parent.now.node l.least l.count c.args.nodes.now no_node l.at c.args.parent.now.node.end c.loop-at-test.true c.requires.1 c.args.levels (omega (arith, c.if-levels-eq0.false)) c.if-node-at.false c.if-node-end.false c.in-Some.child.node c.in-Some.ensures (sym c.if-not-are_children.ensures))

pub loop-at-preserved : goal.loop-at-preserved
loop-at-preserved t c =
    let l = c.loop-at in (
      c.if-node-end.false,
      omega (arith, l.invariant.1, c.if-node-at.false),
      l.invariant.2 ∙ next_child c.args.texts c.args.parent.now.node l.least l.count c.args.nodes.now no_node l.at c.args.parent.now.node.end c.loop-at-test.true c.requires.1 c.args.levels (omega (arith, c.if-levels-eq0.false)) c.if-node-at.false c.if-node-end.false c.in-Some.child.node c.in-Some.ensures c.place_after-least.result (sym c.if-not-are_children.ensures) c.place_after-least.ensures,
    )

pub returns : goal.returns
returns t c =
    let l = c.loop-at in
    let parent = c.args.parent.now in
    c.count_fits.ensures ∙ ap (λ k. count_fits k parent.node.mark l.count) parent.kind_is ∙ sym (l.invariant.2 ∙ children-none c.args.texts parent.node l.least l.count c.args.levels c.args.nodes.now l.at parent.node.end (omega (arith, l.invariant.0, c.loop-at-test.false)))
