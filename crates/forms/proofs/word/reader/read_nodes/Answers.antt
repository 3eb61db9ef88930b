use Rattle.forms.proofs.WordSteps.{copied_more}
use Rattle.forms.proofs.word.reader.read_nodes.Goals as goal

pub loop-i-preserved : goal.loop-i-preserved
loop-i-preserved c = rw c.put.ensures (copied_more c.args.words.now c.loop-i.i c.loop-i.table c.node_from.result c.loop-i.invariant c.node_from.ensures)
