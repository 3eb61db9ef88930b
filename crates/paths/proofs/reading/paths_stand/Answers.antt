use Rattle.paths.proofs.Spelled.{paths-stand}
use Rattle.paths.proofs.reading.paths_stand.Goals as goal

pub returns : goal.returns
returns c = paths-stand
