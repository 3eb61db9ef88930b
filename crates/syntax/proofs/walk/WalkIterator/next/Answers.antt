use Rattle.std.proofs.Common.{sym, ap, ◌∙◌, arith, length}
use Rattle.syntax.proofs.walk.WalkIterator.next.Goals as goal

pub returns-in_err-child-clause-steps : goal.returns-in_err-child-clause-steps
returns-in_err-child-clause-steps g c =
    let none = sym c.self.view_is ∙ c.in_err-child.ensures.walk in
    rw c.from_residual.ensures (none, none)

pub returns-clause-steps : goal.returns-clause-steps
returns-clause-steps g c = sym c.self.view_is ∙ c.in_ok-child.ensures.walk

pub returns-clause-goes : goal.returns-clause-goes
returns-clause-goes g c =
    let shorter = ap length (sym c.self.view_is ∙ c.in_ok-child.ensures.walk) in
    record { on = λ _. (tt, tt, omega (arith, shorter)); keeps = tt; rests = λ _. tt }
