use Rattle.paths.proofs.Held.{rows_same}
use Rattle.paths.specs.Kept.{paths_in, marked_paths_in}
use Rattle.paths.proofs.interned.Paths.go_back.Goals as goal

pub returns : goal.returns
unfolding paths_in marked_paths_in
returns c = record { held = (cc); marked = (cc); held_rows = rows_same c.go_back.ensures.held c.go_back-2.ensures.held; marked_rows = rows_same c.go_back.ensures.marked c.go_back-2.ensures.marked }
