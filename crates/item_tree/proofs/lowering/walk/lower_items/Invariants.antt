use Rattle.std.proofs.Common.{◌+◌, ◌-◌, ◌*◌, length}
use Rattle.tables.specs.Held.{held}
use Rattle.lower.specs.Keeping.{Keeps}
use Rattle.item_tree.proofs.lowering.walk.lower_items.Given as goal

abbrev pub invariant-loop-item : goal.invariant-loop-item
invariant-loop-item g l = Keeps l.initial.lowering l.lowering

-- going on takes two away, opening a node takes two away and adds one, and closing it takes that one away
abbrev pub decreases-loop-item : goal.decreases-loop-item
decreases-loop-item g l = 2 * (4294967296 - l.at) + length (held l.stack)
