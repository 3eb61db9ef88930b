-- When two paths are alike: their kinds and their names are equal.
use Rattle.std.specs.Prelude.{ℕ, suc, ◌+◌, ◌<◌, ◌≤◌, Bool, true, false, ◌&&◌, List, [], ◌∷◌, length, ◌==◌}
use Rattle.paths.specs.Spelling.{Path}
use Rattle.paths.specs.declared.mod_path.PathKind.{PathKind}
use Rattle.paths.specs.declared.mod_path.PathKind.TheVariants.{Plain, Super, Crate, Abs, DollarCrate}
use Rattle.paths.specs.declared.name.Name.{Name}
use Rattle.paths.specs.declared.name.Name.TheVariants.{Text, Missing}

-- kinds and names by number, a number for each
abbrev pub kind_number : PathKind → ℕ
kind_number Plain = 0
kind_number Crate = 1
kind_number Abs = 2
kind_number DollarCrate = 3
kind_number (Super n) = suc (suc (suc (suc n)))

abbrev pub name_number : Name → ℕ
name_number Missing = 0
name_number (Text t) = suc t

abbrev pub same_names : List Name → List Name → Bool
same_names [] [] = true
same_names [] (y ∷ ys) = false
same_names (x ∷ xs) [] = false
same_names (x ∷ xs) (y ∷ ys) = name_number x == name_number y && same_names xs ys

unfoldable pub same_path : Path → Path → Bool
same_path p q = kind_number p.kind == kind_number q.kind && same_names p.names q.names

-- how many names paths have in all
unfoldable pub total : List Path → ℕ
total [] = 0
total (p ∷ ps) = length p.names + total ps

-- a path more is one of at most 512, and all have at most 2,048 names
abbrev pub Room : List Path → Path → Type 0
Room held path = (length held < 512) × (total held + length path.names ≤ 2048)
