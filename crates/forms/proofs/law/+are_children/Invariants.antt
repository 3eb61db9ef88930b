use Rattle.std.proofs.Common.{◌≡◌, ◌-◌, ◌≤◌}
use Rattle.syntax.specs.Trees.{between}
use Rattle.syntax.specs.Law.{are_children}
use Rattle.forms.proofs.law.+are_children.Given as goal

abbrev pub decreases-are_children : goal.decreases-are_children
decreases-are_children l = l.levels

abbrev pub invariant-loop-at : goal.invariant-loop-at
invariant-loop-at l =
    (l.at ≤ l.parent.node.end) × (l.count ≤ l.at)
    × (are_children l.texts l.parent.node 0 0 l.levels l.first (between l.nodes l.first l.parent.node.end) ≡ are_children l.texts l.parent.node l.least l.count l.levels l.at (between l.nodes l.at l.parent.node.end))

abbrev pub decreases-loop-at : goal.decreases-loop-at
decreases-loop-at l = l.parent.node.end - l.at
