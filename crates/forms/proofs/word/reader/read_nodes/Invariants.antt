use Rattle.forms.specs.WordReading.{NodesCopied}
use Rattle.forms.proofs.word.reader.read_nodes.Given as goal

abbrev pub invariant-loop-i : goal.invariant-loop-i
invariant-loop-i l = NodesCopied l.words l.i l.table
