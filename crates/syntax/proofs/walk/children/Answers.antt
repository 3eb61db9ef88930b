use Rattle.std.proofs.Common.{◌∙◌, arith}
use Rattle.syntax.proofs.Rows.{children-start}
use Rattle.syntax.proofs.Walks.{children-walked}
use Rattle.syntax.proofs.walk.children.Goals as goal

pub returns-clause-walked : goal.returns-clause-walked
returns-clause-walked g c =
    let first = c.first_child.ensures in
    c.siblings.ensures.walked ∙ children-walked _ _ _ _ (omega (arith, first.above)) (λ low. omega (arith, first.next low)) (omega arith)

pub returns-clause-own : goal.returns-clause-own
returns-clause-own g c stands =
    let first = c.first_child.ensures in
    let start = children-start _ c.args.parent _ (g.S.SyntaxSource.law c.args.source.now) (λ low. omega (arith, first.next low)) stands in
    c.siblings.ensures.own start.0 ∙ start.1
