use Rattle.std.proofs.Common.{ℕ, ◌-◌, arith}
use Rattle.std.proofs.lemmas.Bool.Decides.{nat_tests}
use Rattle.forms.specs.Tables.{spanned, no_span}
use Rattle.syntax.proofs.Fronts.{map-front-at}
use Rattle.forms.proofs.packed.open.PackedSourceSyntaxSource.text.Goals as goal

pub returns : goal.returns
returns c =
    let s = c.args.self.now in
    let bytes = s.bytes.now in
    let k : ℕ = c.args.number - 1 in
    let p = map-front-at (spanned bytes) s.tables.counts.texts k s.tables.texts no_span (omega (arith, c.if-number-eq0.false)) (omega (arith, s.few, s.tables.room, c.if-number-eq0.false)) in
    grind (arith, nat_tests, p, c.text.ensures, c.if-number-eq0.false)
