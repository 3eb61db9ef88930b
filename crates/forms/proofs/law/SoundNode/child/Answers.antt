use Rattle.std.proofs.Common.{◌∙◌, rules}
use Rattle.std.proofs.lemmas.Bool.{and_left}
use Rattle.syntax.specs.Law.{sound, is_child}
use Rattle.forms.proofs.LawSteps.{child_by}
use Rattle.forms.proofs.law.SoundNode.child.Goals as goal

pub returns-in_err-child : goal.returns-in_err-child
unfolding is_child
returns-in_err-child c = rw c.from_residual.ensures (and_left (sound c.args.texts c.args.node) _ c.in_err-child.ensures)

pub returns-then-least-place_of : goal.returns-then-least-place_of
returns-then-least-place_of c = let k = c.in_ok-child.child in (c.in_ok-child.ensures.0, child_by c.args.texts c.args.self.node c.args.least c.args.node c.args.self.kind k.kind k.node c.takes_child.result c.args.self.kind_is k.kind_is c.in_ok-child.ensures c.takes_child.ensures ∙ search rules)

pub returns-else-takes_child : goal.returns-else-takes_child
returns-else-takes_child c = let k = c.in_ok-child.child in child_by c.args.texts c.args.self.node c.args.least c.args.node c.args.self.kind k.kind k.node c.takes_child.result c.args.self.kind_is k.kind_is c.in_ok-child.ensures c.takes_child.ensures ∙ search rules
