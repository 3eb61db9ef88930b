-- What the number of a path or of a visibility means in a tree.
use Rattle.std.specs.Option.{option_map}
use Rattle.std.specs.Prelude.{Some, None, Option}
use Rattle.syntax.specs.Meaning.{at}
use Rattle.paths.specs.Spelling.{Path}
use Rattle.paths.specs.declared.interned.PathId.{PathId}
use Rattle.items.specs.Visible.{visibility_at}
use Rattle.items.specs.Written.{Visibility, everywhere, in_crate, in_self, in_module}
use Rattle.items.specs.declared.ids.RawVisibilityId.{RawVisibilityId}
use Rattle.items.specs.declared.visibility.RawVisibility.{RawVisibility}
use Rattle.items.specs.declared.visibility.RawVisibility.TheVariants.{Module, PubSelf, PubCrate, Public}
use Rattle.tree_tables.specs.Contents.{Shown}

abbrev pub path_at : Shown → PathId → Option Path
path_at c id = at c.paths id.number

-- a recorded visibility by its meaning
abbrev pub meant_visibility : Shown → RawVisibility → Option Visibility
meant_visibility c Public = Some everywhere
meant_visibility c PubCrate = Some in_crate
meant_visibility c (PubSelf word) = Some (in_self word)
meant_visibility c (Module path word) = option_map in_module (path_at c path)

abbrev pub meant_row : Shown → Option RawVisibility → Option Visibility
meant_row c None = None
meant_row c (Some row) = meant_visibility c row

abbrev pub visibility_named : Shown → RawVisibilityId → Option Visibility
visibility_named c id = meant_row c (visibility_at c.visibilities id.number)
