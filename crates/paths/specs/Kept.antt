-- What the two tables of paths hold, and would hold after going back.
use Rattle.std.specs.Prelude.{List}
use Rattle.tables.specs.Held.{held, marked}
use Rattle.paths.specs.Names.{names_of}
use Rattle.paths.specs.Parts.{meant_by, meant_all}
use Rattle.paths.specs.Spelling.{Path}
use Rattle.paths.specs.declared.interned.InternedPath.{InternedPath}
use Rattle.paths.specs.declared.interned.Paths.{Paths}
use Rattle.paths.specs.declared.mod_path.ModPath.{ModPath}
use Rattle.paths.specs.declared.name.Name.{Name}

abbrev pub PathRows : Type 0
PathRows = List InternedPath × List Name

abbrev pub held_paths : Paths → List InternedPath × List Name
held_paths p = (held p.parts, held p.segments)

abbrev pub marked_paths : Paths → List InternedPath × List Name
marked_paths p = (marked p.parts, marked p.segments)

-- ---- the same by meaning

unfoldable pub paths_in : Paths → List Path
paths_in p = meant_all (held p.parts) (held p.segments)

unfoldable pub marked_paths_in : Paths → List Path
marked_paths_in p = meant_all (marked p.parts) (marked p.segments)

-- a row by its meaning
abbrev pub shown : Paths → InternedPath → Path
shown p part = meant_by (held p.segments) part

-- a path as it is read, by its meaning
abbrev pub read_path : ModPath → Path
read_path path = record { kind = path.kind; names = names_of path }
