-- What an id and a part name.
use Rattle.std.specs.Prelude.{◌≡◌, ℕ, ◌+◌, ◌-◌, ◌/◌, ◌%◌, ◌<◌, min, cond, List, length, Some, Option, ◌==◌}
use Rattle.std.specs.Option.{option_map}
use Rattle.syntax.specs.Meaning.{at}
use Rattle.syntax.specs.declared.refusal.Refusal.{Refusal}
use Rattle.syntax.specs.declared.refusal.Refusal.TheVariants.{NotFound}
use Rattle.tables.specs.Parts.{Inside, rows_of}
use Rattle.tables.specs.declared.part.Part.{Part}
use Rattle.items.specs.declared.attrs.AttrsOrCfg.{AttrsOrCfg}
use Rattle.items.specs.declared.ids.ModItemId.{ModItemId}
use Rattle.items.specs.declared.rows.BigModItem.{BigModItem}
use Rattle.items.specs.declared.rows.IndexedItem.{IndexedItem}
use Rattle.items.specs.declared.rows.ModItem.{ModItem}
use Rattle.items.specs.declared.rows.ModItem.TheVariants.{Small, Big}
use Rattle.items.specs.declared.rows.Row.{Row}
use Rattle.items.specs.declared.rows.SmallModItem.{SmallModItem}
use Rattle.tree_tables.specs.Contents.{Contents}

abbrev pub indexed : Row ModItem → IndexedItem
indexed row = record { id = row.id; item = row.item }

abbrev pub of_small : Row SmallModItem → IndexedItem
of_small row = record { id = row.id; item = Small row.item }

abbrev pub of_big : Row BigModItem → IndexedItem
of_big row = record { id = row.id; item = Big row.item }

-- an even id names a small record, an odd one a big record
abbrev pub index_of : Contents → ModItemId → Option IndexedItem
index_of c id = cond (id.index % 2 == 0) (option_map of_small (at c.small (id.index / 2))) (option_map of_big (at c.big (id.index / 2)))

-- the list of a record's id
abbrev pub row_attrs : Contents → ModItemId → Option (Option AttrsOrCfg)
row_attrs c of = cond (of.index % 2 == 0) (option_map (λ (row : Row SmallModItem). row.attrs) (at c.small (of.index / 2))) (option_map (λ (row : Row BigModItem). row.attrs) (at c.big (of.index / 2)))

-- the list of an id, and that of the top level at its owner's
abbrev pub attrs_of : Contents → ModItemId → Option (Option AttrsOrCfg)
attrs_of c of = cond (of.index == 4294967295) (Some c.top) (row_attrs c of)

-- the rows of a part that lies in the table
abbrev pub Listed : {X : Type 0} → List X → Part X → List X → Type 0
Listed rows part xs = Inside rows part × (xs ≡ rows_of rows part)

-- a part that does not
abbrev pub NotListed : {X : Type 0} → List X → Part X → Refusal → Type 0
NotListed rows part e = (e ≡ NotFound) × (length rows < part.first + part.count)

-- the part from a place on
abbrev pub From : {X : Type 0} → List X → ℕ → Part X → Type 0
From rows place part = (part.first ≡ min place (length rows)) × (part.count ≡ length rows - place)
