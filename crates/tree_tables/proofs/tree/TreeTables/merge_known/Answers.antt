use Rattle.tree_tables.proofs.Parts.{merges_disabled}
use Rattle.tree_tables.proofs.tree.TreeTables.merge_known.Goals as goal

pub returns-in_default-clause-merges : goal.returns-in_default-clause-merges
returns-in_default-clause-merges c = merges_disabled c.args.self.now c.args.first c.args.second _ _ c.in_default.is c.requires.first c.requires.second
