-- The law, as it is judged on tables.
use Rattle.std.specs.Prelude.{ℕ, Bool, ◌&&◌, List, take, nat_le}
use Rattle.forms.specs.declared.tables.Tables.{Tables}
use Rattle.syntax.specs.Law.{lawful_texts, lawful_nodes}
use Rattle.forms.specs.Tables.{spanned_all}

-- so many nodes and texts are in the tables, if these have room
unfoldable pub lawful_tables : List ℕ → Tables → Bool
lawful_tables bytes tables =
    let n = tables.counts.nodes in
    let t = tables.counts.texts in
    nat_le 1 n && (nat_le n 4096 && (nat_le t 1024 && (lawful_texts (spanned_all bytes (take t tables.texts)) && lawful_nodes t (take n tables.nodes))))
