use Rattle.std.proofs.Common.{◌-◌}
use Rattle.pretty.proofs.printer.Printer.+print_use_tree.Given as goal

abbrev pub decreases-print_use_tree : goal.decreases-print_use_tree
decreases-print_use_tree g l = l.depth

abbrev pub decreases-loop-member : goal.decreases-loop-member
decreases-loop-member g l = l.end - l.member
