use Rattle.forms.proofs.BothForms.{one-meaning}
use Rattle.forms.proofs.agreement.forms_agree.Goals as goal

pub returns : goal.returns
returns c = one-meaning
