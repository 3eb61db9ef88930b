-- What a writer of packed forms holds.
use Rattle.std.specs.Prelude.{ℕ, List, ◌++◌, take}
use Rattle.forms_tests.specs.declared.writer.PackedWriter.{PackedWriter}
use Rattle.tables.specs.Held.{held}

unfoldable pub written : PackedWriter → List ℕ
written writer = held writer.bytes

-- these bytes after those, as far as they find room
unfoldable pub appended : List ℕ → List ℕ → List ℕ
appended bytes more = take 65536 (bytes ++ more)
