use Rattle.std.proofs.Common.{◌-◌, ◌<◌, ⊎_elim, arith}
use Rattle.std.proofs.lemmas.Result.{err_from_is_err_and}
use Rattle.forms.proofs.Groups.{bound_most}
use Rattle.forms.proofs.NumberSteps.{higher_cut, higher_wide, higher_long, higher_fault, higher_last, higher_next}
use Rattle.forms.proofs.number.+read_higher.Goals as goal

pub returns-then-at-bytes : goal.returns-then-at-bytes
returns-then-at-bytes t c = higher_cut c.args.bytes.now c.args.at c.args.more c.if-at-bytes.true

pub returns-then-byte-gt-MAX_FIFTH : goal.returns-then-byte-gt-MAX_FIFTH
returns-then-byte-gt-MAX_FIFTH t c = higher_wide c.args.bytes.now c.args.at c.if-at-bytes.false c.args.more c.if-more-eq0.true c.if-byte-gt-MAX_FIFTH.true

pub returns-then-byte-eq0 : goal.returns-then-byte-eq0
returns-then-byte-eq0 t c = higher_long c.args.bytes.now c.args.at c.if-at-bytes.false c.args.more c.if-byte-eq0.true

pub returns-then-byte-lt128 : goal.returns-then-byte-lt128
returns-then-byte-lt128 t c =
    higher_last c.args.bytes.now c.args.at c.if-at-bytes.false c.args.more (λ z. ⊎_elim (λ p. p.1) (λ n. absurd (n z)) c.else-more-eq0.either) c.if-byte-eq0.false c.if-byte-lt128.true

pub returns-in_err-higher : goal.returns-in_err-higher
returns-in_err-higher t c =
    let p = err_from_is_err_and c.from_residual.result c.from_residual.ensures.1 in
    let some : 0 < c.args.more = ⊎_elim (λ p. absurd (omega (arith, p.1, c.if-byte-lt128.false))) (λ n. omega (arith, n)) c.else-more-eq0.either in
    rw (p.1, p.2) (higher_fault c.args.bytes.now c.args.at c.if-at-bytes.false c.args.more _ some (c.if-byte-lt128.false, omega (arith, c.type_inv.bytes c.args.at)) c.in_err-higher.ensures)

pub overflow_mul-result : goal.overflow_mul-result
overflow_mul-result t c = omega (arith, bound_most (c.args.more - 1) (omega (arith, c.requires)), c.in_ok-higher.ensures.1)

pub overflow_add-result-2 : goal.overflow_add-result-2
overflow_add-result-2 t c = omega (arith, bound_most (c.args.more - 1) (omega (arith, c.requires)), c.in_ok-higher.ensures.1, c.type_inv.bytes c.args.at)

pub returns : goal.returns
returns t c =
    let some : 0 < c.args.more = ⊎_elim (λ p. absurd (omega (arith, p.1, c.if-byte-lt128.false))) (λ n. omega (arith, n)) c.else-more-eq0.either in
    higher_next c.args.bytes.now c.args.at c.if-at-bytes.false c.in_ok-higher.higher c.in_ok-higher.next c.if-byte-lt128.false (omega (arith, c.type_inv.bytes c.args.at)) c.args.more some c.in_ok-higher.ensures
