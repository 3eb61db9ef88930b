-- What each step of lowering keeps.
use Rattle.std.specs.Prelude.{◌≡◌}
use Rattle.tree_tables.specs.Contents.{marked_of}
use Rattle.lower.specs.declared.lowering.Lowering.{Lowering}

-- a step goes on in the same tables and with the same source, and what the tables would hold after going back stays
pub record Keeps {S : Type 0} (before after : Lowering S) : Type 0 where
  pub same : after.tables.ghost_name ≡ before.tables.ghost_name
  pub marked : marked_of after.tables.now ≡ marked_of before.tables.now
  pub source : after.source ≡ before.source
