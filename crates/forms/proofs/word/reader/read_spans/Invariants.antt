use Rattle.forms.specs.WordReading.{SpansCopied}
use Rattle.forms.proofs.word.reader.read_spans.Given as goal

abbrev pub invariant-loop-i : goal.invariant-loop-i
invariant-loop-i l = SpansCopied l.words l.bytes l.start l.i l.table
