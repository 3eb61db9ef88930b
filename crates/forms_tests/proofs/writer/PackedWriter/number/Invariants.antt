use Rattle.std.proofs.Common.{◌≡◌}
use Rattle.forms.specs.Numbers.{encoded}
use Rattle.forms_tests.specs.Writing.{written, appended}
use Rattle.forms_tests.proofs.writer.PackedWriter.number.Given as goal

-- what is left of the number is still to be appended
abbrev pub invariant-loop-rest : goal.invariant-loop-rest
invariant-loop-rest l = appended (written l.self) (encoded l.rest) ≡ appended (written l.fn.self) (encoded l.fn.number)

abbrev pub decreases-loop-rest : goal.decreases-loop-rest
decreases-loop-rest l = l.rest
