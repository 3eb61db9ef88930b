use Rattle.std.proofs.Common.{refl, ◌∙◌, rules}
use Rattle.forms.proofs.LawSteps.{no_kind, sound_by}
use Rattle.forms.proofs.law.SoundNode.of.Goals as goal

pub returns-in_default : goal.returns-in_default
returns-in_default c = no_kind c.args.texts c.args.node c.in_default.ensures.1

pub returns-then-node : goal.returns-then-node
returns-then-node c = (refl, sound_by c.args.texts c.args.node c.in-Ok.kind c.mark_fits.result c.in-Ok.ensures c.mark_fits.ensures ∙ search rules)

pub returns-else-mark_fits : goal.returns-else-mark_fits
returns-else-mark_fits c = sound_by c.args.texts c.args.node c.in-Ok.kind c.mark_fits.result c.in-Ok.ensures c.mark_fits.ensures ∙ search rules
