use Rattle.std.proofs.Common.{refl, inl, arith}
use Rattle.forms.proofs.WordExact.{words_cut}
use Rattle.forms.proofs.WordSteps.{other_count}
use Rattle.forms.proofs.word.reader.read_counts.Goals as goal

pub returns-then-words-lt-HEADER : goal.returns-then-words-lt-HEADER
returns-then-words-lt-HEADER c = (refl, inl (words_cut c.args.words.now (omega arith)))

pub returns-then-words-nodes : goal.returns-then-words-nodes
returns-then-words-nodes c = (refl, other_count c.args.words.now c.if-words-nodes.true)
