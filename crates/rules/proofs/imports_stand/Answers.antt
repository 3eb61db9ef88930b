use Rattle.rules.proofs.Local.{imports_local}
use Rattle.rules.proofs.Places.{places_rise, leaves-stand, nodes-stand}
use Rattle.rules.proofs.imports_stand.Goals as goal

pub returns : goal.returns
returns c = record { rising = places_rise; leaves = leaves-stand; nodes = nodes-stand; part = imports_local }
