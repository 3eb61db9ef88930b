-- What interning a path answers, and the paths afterwards.
use Rattle.std.specs.Prelude.{◌≡◌, ◌<◌, false, List, Result, MatchResult}
use Rattle.syntax.specs.declared.refusal.Refusal.{Refusal}
use Rattle.syntax.specs.declared.refusal.Refusal.TheVariants.{TableFull}
use Rattle.tables.specs.Sets.{has, place, inserted}
use Rattle.paths.specs.Alike.{same_path, Room}
use Rattle.paths.specs.Spelling.{Path}
use Rattle.paths.specs.declared.interned.PathId.{PathId}

-- the number of the equal path, or of the path at the end; refused exactly where no equal path is held and there is no room
abbrev pub Interned : List Path → Path → Result PathId Refusal → List Path → Type 0
Interned old path r new =
    MatchResult r
    (λ id. (has same_path old path ≡ false → Room old path) × (id.number ≡ place same_path old path) × (new ≡ inserted same_path old path) × (id.number < 512))
    (λ e. ((has same_path old path ≡ false) × (Room old path → ⊥)) × (e ≡ TableFull) × (new ≡ old))
