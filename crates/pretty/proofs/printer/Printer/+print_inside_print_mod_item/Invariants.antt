use Rattle.std.proofs.Common.{◌≡◌, ◌+◌, ◌*◌}
use Rattle.pretty.proofs.printer.Printer.+print_inside_print_mod_item.Given as goal

abbrev pub decreases-print_inside : goal.decreases-print_inside
decreases-print_inside g l = 2 * l.depth

abbrev pub decreases-print_mod_item : goal.decreases-print_mod_item
decreases-print_mod_item g l = 2 * l.depth + 1

abbrev pub invariant-print_inside-loop-id : goal.invariant-print_inside-loop-id
invariant-print_inside-loop-id g l = (l.guard.before ≡ l.initial.guard.before) × (l.guard.indent.ghost_name ≡ l.initial.guard.indent.ghost_name)
