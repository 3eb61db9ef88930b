use Rattle.std.proofs.Common.{length}
use Rattle.forms.specs.Reading.{RowsRead}
use Rattle.forms.proofs.packed.reader.read_rows.Given as goal

abbrev pub invariant-loop-i : goal.invariant-loop-i
invariant-loop-i g l = RowsRead (g.T.Packed.meant l.bytes) g.T.Packed.fields (g.T.Packed.Within (length l.bytes)) l.bytes l.start l.i l.table l.at
