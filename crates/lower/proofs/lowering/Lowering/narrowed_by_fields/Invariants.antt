use Rattle.lower.specs.Keeping.{Keeps}
use Rattle.lower.proofs.lowering.Lowering.narrowed_by_fields.Given as goal

abbrev pub invariant-loop-child : goal.invariant-loop-child
invariant-loop-child g l =
    (goal.iterator-loop-child g).can_next l.child-iterator
    × (goal.iterator-loop-child g).is_finite l.child-iterator
    × Keeps l.initial.self l.self
