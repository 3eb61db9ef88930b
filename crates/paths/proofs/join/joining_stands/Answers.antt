use Rattle.paths.proofs.Joins.{joining_laws}
use Rattle.paths.proofs.join.joining_stands.Goals as goal

pub returns : goal.returns
returns c = joining_laws
