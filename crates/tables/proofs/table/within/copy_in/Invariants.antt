use Rattle.std.proofs.Common.{◌≡◌, ◌+◌, ◌++◌, length, take}
use Rattle.tables.proofs.table.within.copy_in.Given as goal

abbrev pub invariant-loop-index : goal.invariant-loop-index
invariant-loop-index g l =
    (length l.all ≡ length l.initial.all)
    × (take (l.start + l.index) l.all ≡ take l.start l.initial.all ++ take l.index l.rows)
