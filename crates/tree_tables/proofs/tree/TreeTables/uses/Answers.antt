use Rattle.std.proofs.Common.{length, ap, arith}
use Rattle.tables.proofs.Rows.{length-held-le}
use Rattle.tree_tables.proofs.tree.TreeTables.uses.Goals as goal

pub returns-clause-bound : goal.returns-clause-bound
returns-clause-bound c = let e = ap length c.as_slice.ensures in let few = length-held-le c.args.self.now.uses in omega arith
