use Rattle.rules.proofs.Rows.{examples_stand_lem}
use Rattle.rules.proofs.examples_stand.Goals as goal

pub returns : goal.returns
returns c = examples_stand_lem
