use Rattle.std.proofs.Common.{arith}
use Rattle.forms.proofs.WordSteps.{spans_more}
use Rattle.forms.proofs.word.reader.read_spans.Goals as goal

pub loop-i-preserved : goal.loop-i-preserved
loop-i-preserved c = rw c.put.ensures (spans_more c.args.words.now c.args.bytes.now c.args.start c.loop-i.i c.loop-i.table c.span_from-span.result c.loop-i.invariant c.span_from-span.ensures (omega (arith, c.if-span-bytes.false, c.if-span-bytes-2.false)))
