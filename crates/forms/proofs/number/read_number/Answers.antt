use Rattle.std.proofs.Common.{Ok, Err, arith}
use Rattle.std.proofs.lemmas.Result.{err_from_is_err_and}
use Rattle.forms.specs.declared.number.NumberFault.TheVariants.{CutShort}
use Rattle.forms.proofs.NumberSteps.{number_cut, number_fault, number-last, number-next, number_read}
use Rattle.forms.proofs.number.read_number.Goals as goal

pub returns-then-at-bytes : goal.returns-then-at-bytes
returns-then-at-bytes c =
    let k = number_cut c.args.bytes.now c.args.at c.if-at-bytes.true in
    record { reads = k; accepts = number_read c.args.bytes.now c.args.at (Err CutShort) k }

pub returns-then-byte-lt128 : goal.returns-then-byte-lt128
returns-then-byte-lt128 c =
    let k = number-last c.args.bytes.now c.args.at c.if-at-bytes.false c.if-byte-lt128.true in
    record { reads = k; accepts = number_read c.args.bytes.now c.args.at (Ok _) k }

pub returns-in_err-higher : goal.returns-in_err-higher
returns-in_err-higher c =
    let p = err_from_is_err_and c.from_residual.result c.from_residual.ensures.1 in
    let k = number_fault c.args.bytes.now c.args.at c.if-at-bytes.false c.in_err-higher.field-0.0 (c.if-byte-lt128.false, omega (arith, c.type_inv.bytes c.args.at)) c.in_err-higher.ensures in
    rw (p.1, p.2) (record { reads = k; accepts = number_read c.args.bytes.now c.args.at (Err _) k })

pub returns : goal.returns
returns c =
    let k = number-next c.args.bytes.now c.args.at c.if-at-bytes.false c.in_ok-higher.higher c.in_ok-higher.next c.if-byte-lt128.false (omega (arith, c.type_inv.bytes c.args.at)) c.in_ok-higher.ensures in
    record { reads = k; accepts = number_read c.args.bytes.now c.args.at (Ok _) k }
