use Rattle.tree_tables.proofs.Parts.{joins_first, joins_second}
use Rattle.tree_tables.proofs.tree.TreeTables.concat_attrs.Goals as goal

pub returns-then-first-eq0-clause-joins : goal.returns-then-first-eq0-clause-joins
returns-then-first-eq0-clause-joins c = joins_first c.args.self.now c.args.first c.args.second c.if-first-eq0.true c.requires.second

pub returns-then-second-eq0-clause-joins : goal.returns-then-second-eq0-clause-joins
returns-then-second-eq0-clause-joins c = joins_second c.args.self.now c.args.first c.args.second c.if-second-eq0.true c.requires.first
