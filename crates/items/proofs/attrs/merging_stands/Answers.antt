use Rattle.items.proofs.Merges.{merging_laws}
use Rattle.items.specs.Attributes.{Attribute}
use Rattle.items.proofs.attrs.merging_stands.Goals as goal

pub returns : goal.returns
returns c = merging_laws Attribute
