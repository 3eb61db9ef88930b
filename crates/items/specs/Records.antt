-- Small facts about records.
use Rattle.std.specs.Prelude.{Bool, true, false, ◌==◌}
use Rattle.tables.specs.declared.part.Part.{Part}
use Rattle.items.specs.declared.attrs.Attr.{Attr}
use Rattle.items.specs.declared.attrs.AttrsOrCfg.{AttrsOrCfg}
use Rattle.items.specs.declared.attrs.AttrsOrCfg.TheVariants.{Enabled, CfgDisabled}
use Rattle.items.specs.declared.records.FieldsShape.{FieldsShape}
use Rattle.items.specs.declared.records.FieldsShape.TheVariants.{Record, Unit as Nothing, Tuple}
use Rattle.items.specs.declared.visibility.VisibilityExplicitness.{VisibilityExplicitness}
use Rattle.items.specs.declared.visibility.VisibilityExplicitness.TheVariants.{Explicit, Implicit}

-- tuple and unit structs have a constructor
abbrev pub has_ctor : FieldsShape → Bool
has_ctor Record = false
has_ctor Nothing = true
has_ctor Tuple = true

abbrev pub is_explicit : VisibilityExplicitness → Bool
is_explicit Explicit = true
is_explicit Implicit = false

-- an enabled list without attributes
abbrev pub is_empty : AttrsOrCfg → Bool
is_empty (Enabled attrs) = attrs.count == 0
is_empty (CfgDisabled cfg attrs) = false

-- the part of the table that a list is
abbrev pub part_of : AttrsOrCfg → Part Attr
part_of (Enabled list) = list
part_of (CfgDisabled cfg list) = list

-- the list with another part
abbrev pub with_part : AttrsOrCfg → Part Attr → AttrsOrCfg
with_part (Enabled list) other = Enabled other
with_part (CfgDisabled cfg list) other = CfgDisabled cfg other
