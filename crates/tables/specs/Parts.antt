-- Parts of a table.
use Rattle.std.specs.Prelude.{◌+◌, ◌≤◌, List, length, take, drop}
use Rattle.tables.specs.declared.part.Part.{Part}

-- the part lies in the table
abbrev pub Inside : {X : Type 0} → List X → Part X → Type 0
Inside rows part = part.first + part.count ≤ length rows

abbrev pub rows_of : {X : Type 0} → List X → Part X → List X
rows_of rows part = take part.count (drop part.first rows)
