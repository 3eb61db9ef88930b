use Rattle.rules.proofs.Equals.{alike}
use Rattle.rules.proofs.sources_agree.Goals as goal

pub returns : goal.returns
returns c at-start = λ e. alike _ _ e
