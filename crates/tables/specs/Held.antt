-- What a table holds, and what it would hold after going back.
use Rattle.std.specs.Prelude.{ℕ, List, take}
use Rattle.tables.specs.declared.table.Table.{Table}

unfoldable pub held : {X : Type 0} {n : ℕ} → Table X n → List X
held t = take t.len t.inner.rows

unfoldable pub marked : {X : Type 0} {n : ℕ} → Table X n → List X
marked t = take t.mark t.inner.rows
