-- What the calls that add to a tree answer.
use Rattle.std.specs.Prelude.{◌≡◌, ℕ, ◌+◌, ◌-◌, ◌<◌, ◌≤◌, false, ◌⊎◌, length, Result, MatchResult}
use Rattle.syntax.specs.declared.refusal.Refusal.{Refusal}
use Rattle.syntax.specs.declared.refusal.Refusal.TheVariants.{TableFull}
use Rattle.tables.specs.Sets.{has, place}
use Rattle.tables.specs.declared.part.Part.{Part}
use Rattle.paths.specs.Alike.{same_path, Room}
use Rattle.paths.specs.Spelling.{Path}
use Rattle.paths.specs.declared.interned.PathId.{PathId}
use Rattle.items.specs.Recorded.{same_visibility}
use Rattle.items.specs.declared.ids.ModItemId.{ModItemId}
use Rattle.items.specs.declared.ids.RawVisibilityId.{RawVisibilityId}
use Rattle.items.specs.declared.visibility.RawVisibility.{RawVisibility}
use Rattle.tree_tables.specs.Contents.{Shown, shown_of}
use Rattle.tree_tables.specs.Growth.{Became, unchanged, add_path, add_visibility}
use Rattle.tree_tables.specs.declared.tree.TreeTables.{TreeTables}

-- a record and its id are added, unless one of the two tables is full
unfoldable pub Allocated : ℕ → ℕ → (Shown → Shown) → TreeTables → TreeTables → Result (Unit {0}) Refusal → Type 0
Allocated rows limit change before after r =
    MatchResult r
    (λ _. (rows < limit) × (length (shown_of before).ids < 768) × Became before after change)
    (λ e. (e ≡ TableFull) × ((rows ≡ limit) ⊎ (length (shown_of before).ids ≡ 768)))

-- a row is added, unless the table is full
unfoldable pub Added : ℕ → ℕ → (Shown → Shown) → TreeTables → TreeTables → Result (Unit {0}) Refusal → Type 0
Added rows limit change before after r =
    MatchResult r
    (λ _. (rows < limit) × Became before after change)
    (λ e. (e ≡ TableFull) × (rows ≡ limit) × Became before after unchanged)

-- the same, and the row's place is answered
unfoldable pub AddedAt : ℕ → ℕ → (Shown → Shown) → TreeTables → TreeTables → Result ℕ Refusal → Type 0
AddedAt rows limit change before after r =
    MatchResult r
    (λ index. (index ≡ rows) × (rows < limit) × Became before after change)
    (λ e. (e ≡ TableFull) × (rows ≡ limit) × Became before after unchanged)

-- ids become children, unless the children's table has no room for them
unfoldable pub HandedOver : ℕ → (Shown → Shown) → TreeTables → TreeTables → Result (Part ModItemId) Refusal → Type 0
HandedOver from change before after r =
    let count = length (shown_of before).ids - from in
    MatchResult r
    (λ items. (items.first ≡ length (shown_of before).children) × (items.count ≡ count) × (length (shown_of before).children + count ≤ 768) × Became before after change)
    (λ e. (e ≡ TableFull) × (768 < length (shown_of before).children + count))

-- the number of the equal path, or of the path at the end; refused exactly where no equal path is held and there is no room
unfoldable pub PathAdded : Path → TreeTables → TreeTables → Result PathId Refusal → Type 0
PathAdded path before after r =
    MatchResult r
    (λ id. (has same_path (shown_of before).paths path ≡ false → Room (shown_of before).paths path) × (id.number ≡ place same_path (shown_of before).paths path) × Became before after (add_path path) × (id.number < 512))
    (λ e. ((has same_path (shown_of before).paths path ≡ false) × (Room (shown_of before).paths path → ⊥)) × (e ≡ TableFull) × Became before after unchanged)

-- the number of the equal visibility, or of the visibility at the end; refused exactly where none is equal and 128 are held
unfoldable pub VisibilityAdded : RawVisibility → TreeTables → TreeTables → Result RawVisibilityId Refusal → Type 0
VisibilityAdded visibility before after r =
    MatchResult r
    (λ id. (has same_visibility (shown_of before).visibilities visibility ≡ false → length (shown_of before).visibilities < 128) × (id.number ≡ place same_visibility (shown_of before).visibilities visibility) × Became before after (add_visibility visibility) × (id.number < 128))
    (λ e. ((has same_visibility (shown_of before).visibilities visibility ≡ false) × (length (shown_of before).visibilities ≡ 128)) × (e ≡ TableFull) × Became before after unchanged)
