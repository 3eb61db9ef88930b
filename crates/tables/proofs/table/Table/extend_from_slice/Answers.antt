use Rattle.std.proofs.Common.{arith}
use Rattle.tables.proofs.Changes.{front_kept}
use Rattle.tables.proofs.Rows.{length-held}
use Rattle.tables.specs.Held.{held, marked}
use Rattle.tables.proofs.table.Table.extend_from_slice.Goals as goal

pub returns : goal.returns
unfolding held marked
returns g c =
    let t = c.args.self.now in
    let e = length-held t in
    record { extends = (omega arith, c.copy_in.ensures); marked = front_kept t.inner.rows _ _ t.len _ t.mark c.copy_in.ensures (omega arith) (omega arith) }
