-- Paths as parts of one list of names, one after another.
use Rattle.std.specs.Prelude.{◌≡◌, ℕ, ◌+◌, Bool, true, ◌&&◌, List, [], ◌∷◌, length, ◌==◌}
use Rattle.tables.specs.Parts.{rows_of}
use Rattle.tables.specs.Sets.{distinct}
use Rattle.paths.specs.Alike.{same_path}
use Rattle.paths.specs.Spelling.{Path}
use Rattle.paths.specs.declared.interned.InternedPath.{InternedPath}
use Rattle.paths.specs.declared.name.Name.{Name}

-- the path of a row
abbrev pub meant_by : List Name → InternedPath → Path
meant_by segments part = record { kind = part.kind; names = rows_of segments part.names }

unfoldable pub meant_all : List InternedPath → List Name → List Path
meant_all [] segments = []
meant_all (part ∷ parts) segments = meant_by segments part ∷ meant_all parts segments

-- each part begins where the one before it ends
unfoldable pub starts : List InternedPath → ℕ → Bool
starts [] n = true
starts (part ∷ parts) n = part.names.first == n && starts parts (n + part.names.count)

unfoldable pub counts : List InternedPath → ℕ
counts [] = 0
counts (part ∷ parts) = part.names.count + counts parts

-- the parts are all of the names, and no two are the same path
abbrev pub Laid : List InternedPath → List Name → Type 0
Laid parts segments = (starts parts 0 ≡ true) × (length segments ≡ counts parts) × (distinct same_path (meant_all parts segments) ≡ true)
