use Rattle.std.proofs.Common.{not, ap, sym, ◌∙◌, ⊎_elim, true-eqb, false-eqb}
use Rattle.forms.specs.Tables.{spanned_all}
use Rattle.forms.proofs.Texts.{text-none, text_long, text-fits}
use Rattle.forms.proofs.judge.is_text.Goals as goal

pub returns-then-is_empty : goal.returns-then-is_empty
returns-then-is_empty c =
    let t = c.args.text.now in
    let later = spanned_all c.args.later.bytes.now c.args.later.spans.now in
    sym (⊎_elim (λ e. text-none t later (true-eqb _ 0 (sym e ∙ c.is_empty.ensures))) (λ p. text_long t later p.1) c.then-is_empty.either)

pub returns : goal.returns
returns c =
    let t = c.args.text.now in
    let later = spanned_all c.args.later.bytes.now c.args.later.spans.now in
    ap not c.has.ensures ∙ sym (text-fits t later (false-eqb _ 0 c.if-is_empty.ensures) c.if-text-gt-MAX_TEXT_LEN.false)
