-- Reading segments against spelling them.
use Rattle.std.specs.Prelude.{◌≡◌, Bool, List, Some, None}
use Rattle.paths.specs.Reading.{read_as}
use Rattle.paths.specs.Spelling.{Path, Segment, Spells}

-- the path that is read is the one that is spelled; none is read where none is spelled
pub record ReadExactly (leading : Bool) (segments : List Segment) : Type 0 where
  pub spelled : (p : Path) → read_as leading segments ≡ Some p → Spells leading segments p
  pub read : (p : Path) → Spells leading segments p → read_as leading segments ≡ Some p
  pub one : (p q : Path) → Spells leading segments p → Spells leading segments q → p ≡ q
  pub unspelled : read_as leading segments ≡ None → (p : Path) → Spells leading segments p → ⊥
  pub unread : ((p : Path) → Spells leading segments p → ⊥) → read_as leading segments ≡ None

abbrev pub PathsStand : Type 0
PathsStand = (leading : Bool) (segments : List Segment) → ReadExactly leading segments
