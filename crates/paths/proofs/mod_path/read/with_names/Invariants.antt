use Rattle.std.proofs.Common.{◌+◌, ◌≤◌, length}
use Rattle.paths.specs.Names.{names_of}
use Rattle.paths.specs.Reading.{meant}
use Rattle.paths.proofs.Naming.{Naming}
use Rattle.paths.proofs.mod_path.read.with_names.Given as goal

abbrev pub invariant-loop-segment : goal.invariant-loop-segment
invariant-loop-segment g l = length (names_of l.initial.path) + length l.initial.segment-iterator ≤ 64 → Naming (meant l.initial.path) l.initial.segment-iterator l.segment-iterator l.path
