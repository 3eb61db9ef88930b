use Rattle.rules.proofs.Described.{constructors-held}
use Rattle.rules.proofs.Seen.{constructor_law, struct_law, fields_narrow}
use Rattle.rules.proofs.constructors_stand.Goals as goal

pub returns : goal.returns
returns c = record { exact = constructor_law; written = struct_law; held = constructors-held; narrower = fields_narrow }
