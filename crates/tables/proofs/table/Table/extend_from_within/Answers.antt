use Rattle.std.proofs.Common.{arith}
use Rattle.tables.proofs.Changes.{copied, front_kept}
use Rattle.tables.proofs.Rows.{length-held}
use Rattle.tables.specs.Held.{held, marked}
use Rattle.tables.proofs.table.Table.extend_from_within.Goals as goal

pub returns : goal.returns
unfolding held marked
returns g c =
    let t = c.args.self.now in
    let e = length-held t in
    let more = copied t.inner.rows _ t.len c.args.first c.args.count c.copy_within.ensures.after (omega arith) (omega arith) in
    record { held = more; marked = front_kept t.inner.rows _ _ t.len _ t.mark more (omega arith) (omega arith) }
