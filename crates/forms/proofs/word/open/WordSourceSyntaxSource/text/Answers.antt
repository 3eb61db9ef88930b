use Rattle.std.proofs.Common.{ℕ, ◌-◌, ◌<◌, ◌≤◌, length, sym, ap, ◌∙◌, subst, arith}
use Rattle.std.proofs.lemmas.Bool.Decides.{nat_tests}
use Rattle.forms.specs.Tables.{spanned, span_end}
use Rattle.forms.specs.Words.{text_count}
use Rattle.forms.proofs.WordSteps.{span_in, text_at_lem, text-past}
use Rattle.forms.proofs.word.open.WordSourceSyntaxSource.text.Goals as goal
use Rattle.forms.proofs.word.open.WordSourceSyntaxSource.text.Goals.{then-number-eq0-via-then-number-eq0, then-number-eq0-via-else-number-eq0+then-number-words}

pub returns-then-number-eq0 : goal.returns-then-number-eq0
returns-then-number-eq0 c =
    let s = c.args.self.now in
    elim c.then-number-eq0.branch [
      | then-number-eq0-via-then-number-eq0 w ↦ grind (arith, nat_tests, w.if-number-eq0.true)
      | then-number-eq0-via-else-number-eq0+then-number-words w ↦
          let p = text-past s.words.now s.bytes.now (c.args.number - 1) (omega (arith, w.if-number-words.true)) in
          grind (arith, nat_tests, p, w.if-number-eq0.false)
    ]

pub text-requires : goal.text-requires
text-requires c =
    let s = c.args.self.now in
    let k : ℕ = c.args.number - 1 in
    let less : k < text_count s.words.now = omega (arith, c.if-number-eq0.false) in
    subst (λ x. span_end x ≤ length s.bytes.now) (span_in s.words.now k less ∙ sym c.span_from-span.ensures) (s.within k less)

pub returns : goal.returns
returns c =
    let s = c.args.self.now in
    let bytes = s.bytes.now in
    let k : ℕ = c.args.number - 1 in
    let p = text_at_lem s.words.now bytes k (omega (arith, c.if-number-eq0.false)) in
    let e = c.text.ensures in
    let q = ap (spanned bytes) c.span_from-span.ensures in
    grind (arith, nat_tests, p, e, q, c.if-number-eq0.false)
