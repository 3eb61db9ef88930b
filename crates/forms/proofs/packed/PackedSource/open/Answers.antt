use Rattle.std.proofs.Common.{sym, refl}
use Rattle.std.proofs.lemmas.Result.{err_from_is_err_and}
use Rattle.forms.proofs.PackedExact.{packed_exact, refuses_unread}
use Rattle.forms.proofs.Judging.{limits}
use Rattle.forms.proofs.Opened.{unlawful, ruled, opened, within}
use Rattle.forms.proofs.packed.PackedSource.open.Goals as goal

pub returns-in_err-read_form : goal.returns-in_err-read_form
returns-in_err-read_form c =
    let p = err_from_is_err_and c.from_residual.result c.from_residual.ensures.1 in
    rw (p.1, p.2) (record { answers = refuses_unread c.args.bytes.now _ c.in_err-read_form.ensures; keeps = refl })

pub returns-then-not-is_lawful : goal.returns-then-not-is_lawful
returns-then-not-is_lawful c =
    let bytes = c.args.bytes.now in
    record { answers = unlawful (packed_exact bytes) bytes c.read_form.new.tables c.in_ok-read_form.ensures (sym c.if-not-is_lawful.ensures); keeps = refl }

pub invariant_of-self : goal.invariant_of-self
invariant_of-self c =
    let bytes = c.args.bytes.now in
    let tables = c.read_form.new.tables in
    let read = c.in_ok-read_form.ensures in
    let law = sym c.if-not-is_lawful.ensures in
    record {
      few = limits bytes tables law;
      within = within (packed_exact bytes) bytes tables read law;
      ruled = ruled (packed_exact bytes) bytes tables read law;
    }

pub returns : goal.returns
returns c =
    let bytes = c.args.bytes.now in
    record { answers = opened (packed_exact bytes) bytes c.read_form.new.tables c.in_ok-read_form.ensures (sym c.if-not-is_lawful.ensures); keeps = tt }
