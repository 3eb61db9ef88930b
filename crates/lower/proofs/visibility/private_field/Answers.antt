use Rattle.std.proofs.Common.{sym}
use Rattle.std.proofs.lemmas.List.Elements.{All-head, All-rest, All-same}
use Rattle.syntax.specs.Children.{StandsIn}
use Rattle.items.specs.Written.{private_field}
use Rattle.lower.proofs.Fields.{fields_open, fields_skip}
use Rattle.lower.proofs.visibility.private_field.Goals as goal

pub loop-child-preserved : goal.loop-child-preserved
loop-child-preserved g c =
    let m = g.S.SyntaxSource.meaning c.args.source.now in
    let steps = c.in-Some.ensures.steps in
    let inv = c.loop-child.invariant in
    (tt, tt, All-rest (StandsIn m) _ _ _ steps inv.2, λ stands. fields_skip m (private_field m c.args.strukt) _ (inv.3 stands) _ _ steps (sym c.if-is.ensures))

pub loop-child-preserved-in_default : goal.loop-child-preserved-in_default
loop-child-preserved-in_default g c =
    let m = g.S.SyntaxSource.meaning c.args.source.now in
    let steps = c.in-Some.ensures.steps in
    let inv = c.loop-child.invariant in
    let stands-child = All-head (StandsIn m) _ _ (All-same (StandsIn m) _ _ (sym steps) inv.2) in
    (tt, tt, All-rest (StandsIn m) _ _ _ steps inv.2, λ stands. fields_open m (private_field m c.args.strukt) _ (inv.3 stands) _ _ steps (sym c.if-is.ensures) c.visibility_from_ast.result (c.visibility_from_ast.ensures stands-child) c.in_default.not-PubSelf)
