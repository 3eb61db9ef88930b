use Rattle.std.proofs.Common.{◌-◌}
use Rattle.imports.proofs.expand.Expansion.+expand_impl.Given as goal

abbrev pub decreases-expand_impl : goal.decreases-expand_impl
decreases-expand_impl l = l.depth

abbrev pub decreases-loop-at : goal.decreases-loop-at
decreases-loop-at l = l.to - l.at
