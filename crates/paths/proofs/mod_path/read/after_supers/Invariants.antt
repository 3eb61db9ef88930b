use Rattle.std.proofs.Common.{◌+◌, ◌^◌, ◌<◌, ◌≤◌, length}
use Rattle.paths.specs.Reading.{after_supers, segments_of}
use Rattle.paths.proofs.Naming.{Counting}
use Rattle.paths.proofs.mod_path.read.after_supers.Given as goal

-- no count is larger than there are segments
abbrev pub invariant-loop-segment : goal.invariant-loop-segment
invariant-loop-segment g l =
    (l.count + length l.segments < 2 ^ 32)
    × (length l.initial.segments ≤ 64 → Counting (after_supers l.initial.count (segments_of l.initial.segments)) l.segments l.count)

abbrev pub decreases-loop-segment : goal.decreases-loop-segment
decreases-loop-segment g l = length l.segments
