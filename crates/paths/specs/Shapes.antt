-- Paths by kind and number of names, as they are joined, with the names beside them.
use Rattle.std.specs.Prelude.{ℕ, List, Some, None, Option}
use Rattle.paths.specs.Joining.{Prefix, none, under, broken, Target}
use Rattle.paths.specs.declared.join.ImportKind.{ImportKind}
use Rattle.paths.specs.declared.join.PathShape.{PathShape}
use Rattle.paths.specs.declared.mod_path.PathKind.{PathKind}
use Rattle.paths.specs.declared.mod_path.PathKind.TheVariants.{Plain, Super, Crate, Abs, DollarCrate}
use Rattle.paths.specs.declared.name.Name.{Name}

-- a prefix whose names are xs
abbrev pub around : List Name → Option PathShape → Prefix
around xs None = none
around xs (Some p) = under (record { kind = p.kind; names = xs })

-- what a join gives, whose names are then xs
abbrev pub joined : List Name → Option PathShape → Prefix
joined xs None = broken
joined xs (Some p) = under (record { kind = p.kind; names = xs })

-- what a single imports, whose names are then xs
abbrev pub imported : List Name → Option (PathKind × ImportKind) → Option Target
imported xs None = None
imported xs (Some t) = Some (record { path = record { kind = t.0; names = xs }; kind = t.1 })

abbrev pub len_of : Option PathShape → ℕ
len_of None = 0
len_of (Some p) = p.len

-- how many `super` a kind has
abbrev pub supers_of : PathKind → ℕ
supers_of Plain = 0
supers_of Abs = 0
supers_of (Super n) = n
supers_of Crate = 0
supers_of DollarCrate = 0

abbrev pub supers_in : Option PathShape → ℕ
supers_in None = 0
supers_in (Some p) = supers_of p.kind
