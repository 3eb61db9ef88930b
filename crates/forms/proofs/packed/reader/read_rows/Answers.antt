use Rattle.std.proofs.Common.{length, arith}
use Rattle.std.proofs.lemmas.Result.{err_from_is_err_and}
use Rattle.forms.proofs.TableSteps.{rows_more, rows_fail}
use Rattle.forms.proofs.packed.reader.read_rows.Goals as goal

pub returns-in_err-row : goal.returns-in_err-row
returns-in_err-row g c =
    let t = g.T.Packed in
    let bytes = c.args.bytes.now in
    let p = err_from_is_err_and c.from_residual.result c.from_residual.ensures.1 in
    rw (p.1, p.2) (rows_fail (t.meant bytes) t.fields (t.Within (length bytes)) bytes c.args.start t.some t.narrow c.loop-i.i c.args.count c.loop-i.table c.loop-i.at _ c.loop-i.invariant (omega arith) c.in_err-row.ensures)

pub loop-i-preserved : goal.loop-i-preserved
loop-i-preserved g c =
    let t = g.T.Packed in
    let bytes = c.args.bytes.now in
    rw c.put.ensures (rows_more (t.meant bytes) t.fields (t.Within (length bytes)) bytes c.args.start c.loop-i.i c.loop-i.table c.loop-i.at c.in_ok-row.row c.in_ok-row.next c.loop-i.invariant c.in_ok-row.ensures)
