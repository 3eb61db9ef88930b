use Rattle.std.proofs.Common.{sym, ◌∙◌, inl, inr, arith, true-eqb, false-eqb}
use Rattle.syntax.specs.Trees.{between}
use Rattle.syntax.specs.Law.{are_children}
use Rattle.forms.specs.Tables.{no_node}
use Rattle.forms.proofs.LawSteps.{no_root, bad-root, good_root}
use Rattle.forms.proofs.law.is_file.Goals as goal
use Rattle.forms.proofs.law.is_file.Goals.{then-not-is_root-via-then-not-is_root, then-not-is_root-via-else-not-is_root+then-root-nodes}

pub returns-in_default : goal.returns-in_default
returns-in_default c = sym (no_root c.args.texts c.args.nodes.now (omega arith))

pub returns-in_default-of : goal.returns-in_default-of
returns-in_default-of c = sym (bad-root c.args.texts c.args.nodes.now no_node c.in-len1-up.len_at_least (inr (inr c.in_default-of.ensures)))

pub returns-then-not-is_root : goal.returns-then-not-is_root
returns-then-not-is_root c =
    let root = c.in-Some.root in
    let same = c.in-Some.ensures.0 in
    sym (bad-root c.args.texts c.args.nodes.now no_node c.in-len1-up.len_at_least (elim c.then-not-is_root.branch [
      | then-not-is_root-via-then-not-is_root w ↦ inl (λ e. false-eqb _ 0 w.if-not-is_root.ensures (root.kind_is ∙ (λ i. (same i).kind) ∙ e))
      | then-not-is_root-via-else-not-is_root+then-root-nodes w ↦ inr (inl (λ e. w.if-root-nodes.true ((λ i. (same i).end) ∙ e)))
    ]))

pub returns : goal.returns
returns c =
    let root = c.in-Some.root in
    let same = c.in-Some.ensures.0 in
    let kind = (λ i. (sym same i).kind) ∙ sym root.kind_is ∙ true-eqb _ 0 c.if-not-is_root.ensures in
    let end = (λ i. (sym same i).end) ∙ c.if-root-nodes.false in
    c.are_children.ensures ∙ (λ i. are_children c.args.texts (same i) 0 0 40 1 (between c.args.nodes.now 1 (same i).end)) ∙ sym (good_root c.args.texts c.args.nodes.now no_node c.in-len1-up.len_at_least kind end c.in-Some.ensures.1)
