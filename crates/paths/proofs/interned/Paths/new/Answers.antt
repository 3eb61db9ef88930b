use Rattle.std.proofs.Common.{◌∙◌}
use Rattle.paths.specs.Kept.{paths_in, marked_paths_in}
use Rattle.paths.proofs.Held.{rows_same}
use Rattle.paths.proofs.Laid.{laid_none, laid_same, meant-none, meant-same}
use Rattle.paths.proofs.interned.Paths.new.Goals as goal

pub invariant_of-result : goal.invariant_of-result
invariant_of-result c = record {
  laid = (
    laid_same c.new-2.ensures.held c.new-3.ensures.held laid_none,
    laid_same c.new-2.ensures.marked c.new-3.ensures.marked laid_none,
  );
}

pub returns : goal.returns
unfolding paths_in marked_paths_in
returns c = record {
  rows = rows_same c.new-2.ensures.held c.new-3.ensures.held;
  held = meant-same c.new-2.ensures.held c.new-3.ensures.held ∙ meant-none _;
  marked = meant-same c.new-2.ensures.marked c.new-3.ensures.marked ∙ meant-none _;
}
