use Rattle.std.proofs.Common.{◌≡◌, drop}
use Rattle.forms_tests.specs.Writing.{written, appended}
use Rattle.forms_tests.proofs.writer.PackedWriter.text.Given as goal

abbrev pub invariant-loop-byte : goal.invariant-loop-byte
invariant-loop-byte l = appended (written l.self) (drop l.byte-index l.text) ≡ appended (written l.initial.self) l.text
