-- Which segments spell which path.
use Rattle.std.specs.Prelude.{◌≡◌, ℕ, ◌≤◌, Bool, true, false, ◌⊎◌, List, [], ◌∷◌, ◌++◌, map, length, replicate}
use Rattle.paths.specs.declared.mod_path.PathKind.{PathKind}
use Rattle.paths.specs.declared.mod_path.PathKind.TheVariants.{Plain, Super, Crate, Abs, DollarCrate}
use Rattle.paths.specs.declared.name.Name.{Name}

pub record Path : Type 0 where
  pub kind : PathKind
  pub names : List Name

-- a segment as it is written; a name without text is `nameless`
pub data Segment : Type 0 where
  name : Name → Segment
  nameless : Segment
  self' : Segment
  super' : Segment
  crate' : Segment
  dollar_crate : Segment

abbrev pub supers : ℕ → List Segment
supers n = replicate n super'

-- what stands before the names: nothing, `self` and n times `super`, `super` alone, `crate` or `$crate`
abbrev pub Begins : Bool → PathKind → List Segment → Type 0
Begins leading Plain front = (leading ≡ false) × (front ≡ [])
Begins leading Abs front = (leading ≡ true) × (front ≡ [])
Begins leading (Super n) front = (leading ≡ false) × ((front ≡ self' ∷ supers n) ⊎ ((1 ≤ n) × (front ≡ supers n)))
Begins leading Crate front = (leading ≡ false) × (front ≡ crate' ∷ [])
Begins leading DollarCrate front = (leading ≡ false) × (front ≡ dollar_crate ∷ [])

-- segments, after a leading `::` or not, spell a path: its beginning, and then its names
pub record Spells (leading : Bool) (segments : List Segment) (p : Path) : Type 0 where
  pub front : List Segment
  pub begins : Begins leading p.kind front
  pub whole : segments ≡ front ++ map name p.names
  pub some : 1 ≤ length segments
