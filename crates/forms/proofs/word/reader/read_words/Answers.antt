use Rattle.std.proofs.Common.{inr}
use Rattle.std.proofs.lemmas.Result.{err_from_is_err_and}
use Rattle.forms.proofs.WordSteps.{outside, whole_words}
use Rattle.forms.proofs.word.reader.read_words.Goals as goal

pub returns-in_err-read_spans : goal.returns-in_err-read_spans
returns-in_err-read_spans c =
    let p = err_from_is_err_and c.from_residual-in_err-read_spans.result c.from_residual-in_err-read_spans.ensures.1 in
    let past = c.in_err-read_spans.ensures in
    rw (p.1, p.2) (past.0, inr (inr (outside c.args.words.now c.args.bytes.now _ _ c.in_ok-counts.ensures past.1)))

pub returns : goal.returns
returns c = whole_words c.args.words.now c.args.bytes.now _ _ c.in_ok-counts.ensures _ _ c.read_nodes.ensures c.in_ok-read_spans.ensures _
