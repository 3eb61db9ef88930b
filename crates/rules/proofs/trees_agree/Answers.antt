use Rattle.rules.proofs.Equals.{trees_agree_lem}
use Rattle.rules.proofs.trees_agree.Goals as goal

pub returns : goal.returns
returns c = trees_agree_lem
