use Rattle.rules.proofs.Described.{entries-stand}
use Rattle.rules.proofs.Few.{one-item, index_never}
use Rattle.rules.proofs.RootItems.{root-is-items}
use Rattle.rules.proofs.RunSteps.{inventory-stands, run-ids-stand, limits_stand}
use Rattle.rules.proofs.runs_stand.Goals as goal

pub returns : goal.returns
returns c = record { inventory = inventory-stands; entries = entries-stand; ids = run-ids-stand; limits = limits_stand; single = one-item; root = root-is-items; never = index_never }
