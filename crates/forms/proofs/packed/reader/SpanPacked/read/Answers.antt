use Rattle.std.proofs.Common.{arith, length-drop}
use Rattle.std.proofs.lemmas.Result.{err_from_is_err_and}
use Rattle.forms.proofs.Codes.{text-bad-length, text-short, text-stands}
use Rattle.forms.proofs.packed.reader.SpanPacked.read.Goals as goal

pub returns-in_err-len : goal.returns-in_err-len
returns-in_err-len c =
    let p = err_from_is_err_and c.from_residual.result c.from_residual.ensures.1 in
    rw (p.1, p.2) (text-bad-length _ _ c.in_err-len.ensures.reads)

pub returns-then-len-bytes : goal.returns-then-len-bytes
returns-then-len-bytes c =
    let read = c.in_ok-len.ensures.reads in
    text-short c.args.bytes.now c.args.at c.in_ok-len.len c.in_ok-len.start read (omega (arith, length-drop c.in_ok-len.start c.args.bytes.now, c.if-len-bytes.true))

pub returns : goal.returns
returns c =
    let read = c.in_ok-len.ensures.reads in
    (text-stands c.args.bytes.now c.args.at _ read (omega (arith, read.2, c.if-len-bytes.false)), omega (arith, read.2, c.if-len-bytes.false))
