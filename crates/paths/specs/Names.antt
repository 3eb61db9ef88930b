-- Names, and those of a path as it is read.
use Rattle.std.specs.Prelude.{ℕ, cond, List, Some, None, Option, ◌==◌}
use Rattle.tables.specs.Held.{held}
use Rattle.paths.specs.declared.mod_path.ModPath.{ModPath}
use Rattle.paths.specs.declared.name.Name.{Name}
use Rattle.paths.specs.declared.name.Name.TheVariants.{Text}

-- text 0 is no name
abbrev pub name_of : ℕ → Option Name
name_of text = cond (text == 0) None (Some (Text text))

abbrev pub names_of : ModPath → List Name
names_of path = held path.names
