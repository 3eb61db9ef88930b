use Rattle.rules.proofs.Ids.{ids-stand}
use Rattle.rules.proofs.ids_stand.Goals as goal

pub returns : goal.returns
returns c = ids-stand
