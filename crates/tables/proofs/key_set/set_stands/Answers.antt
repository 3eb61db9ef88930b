use Rattle.tables.proofs.Runs.{runs}
use Rattle.tables.proofs.key_set.set_stands.Goals as goal

pub returns : goal.returns
returns g c = λ same q ks. runs same q ks
