use Rattle.std.proofs.Common.{◌≡◌, take}
use Rattle.paths.proofs.interned.table.same_names.Given as goal

abbrev pub invariant-loop-place : goal.invariant-loop-place
invariant-loop-place l = take l.place l.a ≡ take l.place l.b
