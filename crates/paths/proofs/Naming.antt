-- Reading the names of a path, and `super` before them, segment by segment.
use Rattle.std.proofs.Common.{◌≡◌, ℕ, ◌+◌, ◌≤◌, List, length, Option}
use Rattle.syntax.specs.declared.walk.NodeRef.{NodeRef}
use Rattle.paths.specs.Names.{names_of}
use Rattle.paths.specs.Reading.{with_more, after_supers, segments_of, meant}
use Rattle.paths.specs.Spelling.{Path}
use Rattle.paths.specs.declared.mod_path.ModPath.{ModPath}

-- a path that is begun, with the names so far, and the segments of `all` that are left
pub record Naming (begun : Path) (all left : List NodeRef) (path : ModPath) : Type 0 where
  pub room : length (names_of path) + length left ≤ 64
  pub kept : path.kind ≡ begun.kind
  pub same : with_more (meant path) (segments_of left) ≡ with_more begun (segments_of all)

-- what is left after n times `super` spells what all spells
pub record Counting (all : Option Path) (left : List NodeRef) (n : ℕ) : Type 0 where
  pub few : length left ≤ 64
  pub same : after_supers n (segments_of left) ≡ all
