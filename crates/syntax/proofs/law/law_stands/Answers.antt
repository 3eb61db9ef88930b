use Rattle.syntax.proofs.Lawfulness.{law-stands}
use Rattle.syntax.proofs.law.law_stands.Goals as goal

pub returns : goal.returns
returns c = law-stands
