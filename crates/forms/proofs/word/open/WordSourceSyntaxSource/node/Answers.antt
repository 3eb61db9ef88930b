use Rattle.std.proofs.Common.{Some, sym, ap, ◌∙◌, arith}
use Rattle.forms.proofs.WordSteps.{node_at_lem, node-past}
use Rattle.forms.proofs.word.open.WordSourceSyntaxSource.node.Goals as goal

pub returns-then-number-words : goal.returns-then-number-words
returns-then-number-words c = ap Some c.node_from.ensures ∙ sym (node_at_lem c.args.self.now.words.now c.args.number (omega arith))

pub returns-else-number-words : goal.returns-else-number-words
returns-else-number-words c = sym (node-past c.args.self.now.words.now c.args.number (omega arith))
