-- The items inside an item.
use Rattle.std.specs.Prelude.{Some, None, Option}
use Rattle.tables.specs.declared.part.Part.{Part}
use Rattle.items.specs.declared.ids.ModItemId.{ModItemId}
use Rattle.items.specs.declared.records.ModKind.{ModKind}
use Rattle.items.specs.declared.records.ModKind.TheVariants.{Inline, Outline}
use Rattle.items.specs.declared.rows.BigModItem.{BigModItem}
use Rattle.items.specs.declared.rows.BigModItem.TheVariants.{ExternCrate, Mod, Use, Struct}
use Rattle.items.specs.declared.rows.ModItem.{ModItem}
use Rattle.items.specs.declared.rows.ModItem.TheVariants.{Small, Big}
use Rattle.items.specs.declared.rows.SmallModItem.{SmallModItem}
use Rattle.items.specs.declared.rows.SmallModItem.TheVariants.{Const, Enum, ExternBlock, Function, Impl, Macro2, MacroCall, MacroRules, Static, Trait, TypeAlias, Union}

abbrev pub of_kind : ModKind → Option (Part ModItemId)
of_kind (Inline items) = Some items
of_kind Outline = None

abbrev pub of_big : BigModItem → Option (Part ModItemId)
of_big (ExternCrate x) = None
of_big (Mod x) = of_kind x.kind
of_big (Use x) = None
of_big (Struct x) = None

abbrev pub of_small : SmallModItem → Option (Part ModItemId)
of_small (Const x) = None
of_small (Enum x) = None
of_small (ExternBlock x) = Some x.children
of_small (Function x) = None
of_small (Impl x) = None
of_small (Macro2 x) = None
of_small (MacroCall x) = None
of_small (MacroRules x) = None
of_small (Static x) = None
of_small (Trait x) = None
of_small (TypeAlias x) = None
of_small (Union x) = None

-- an inline module and an extern block have items inside them
abbrev pub children_of : ModItem → Option (Part ModItemId)
children_of (Small x) = of_small x
children_of (Big x) = of_big x
