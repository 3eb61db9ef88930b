use Rattle.paths.proofs.Held.{rows_same}
use Rattle.paths.specs.Kept.{paths_in, marked_paths_in}
use Rattle.paths.proofs.interned.Paths.set_mark.Goals as goal

pub returns : goal.returns
unfolding paths_in marked_paths_in
returns c = record { held = (cc); marked = (cc); held_rows = rows_same c.set_mark.ensures.held c.set_mark-2.ensures.held; marked_rows = rows_same c.set_mark.ensures.marked c.set_mark-2.ensures.marked }
