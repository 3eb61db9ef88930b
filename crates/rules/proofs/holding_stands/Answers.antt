use Rattle.rules.proofs.Held.{holding_stands_lem, holding_once}
use Rattle.rules.proofs.holding_stands.Goals as goal

pub returns : goal.returns
returns c = record { held = holding_stands_lem; once = holding_once }
