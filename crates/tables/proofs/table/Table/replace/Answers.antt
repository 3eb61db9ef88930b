use lib.Seq.{take-set-lt}
use Rattle.tables.specs.Held.{held}
use Rattle.tables.proofs.table.Table.replace.Goals as goal

pub returns-then-index-self-clause-past : goal.returns-then-index-self-clause-past
unfolding held
returns-then-index-self-clause-past g c = λ _. take-set-lt _ _ _ _ c.if-index-self.true
