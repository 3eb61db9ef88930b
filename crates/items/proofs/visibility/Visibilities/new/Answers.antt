use Rattle.items.proofs.Apart.{apart_none}
use Rattle.items.proofs.visibility.Visibilities.new.Goals as goal

pub invariant_of-result : goal.invariant_of-result
invariant_of-result c = record { apart = (apart_none _ c.new.ensures.held, apart_none _ c.new.ensures.marked) }
