-- What the calls that add to a tree do to its contents.
use Rattle.std.specs.Prelude.{◌≡◌, ℕ, ◌+◌, ◌*◌, List, [], ◌∷◌, ◌++◌, length, take, drop, Option, slice_set}
use Rattle.tables.specs.Sets.{inserted}
use Rattle.paths.specs.Alike.{same_path}
use Rattle.paths.specs.Spelling.{Path}
use Rattle.items.specs.Recorded.{same_visibility}
use Rattle.items.specs.declared.attrs.Attr.{Attr}
use Rattle.items.specs.declared.attrs.AttrsOrCfg.{AttrsOrCfg}
use Rattle.items.specs.declared.ids.ModItemId.{ModItemId}
use Rattle.items.specs.declared.ids.RawVisibilityId.{RawVisibilityId}
use Rattle.items.specs.declared.rows.BigModItem.{BigModItem}
use Rattle.items.specs.declared.rows.Row.{Row}
use Rattle.items.specs.declared.rows.SmallModItem.{SmallModItem}
use Rattle.items.specs.declared.use_tree.UseTree.{UseTree}
use Rattle.items.specs.declared.use_tree.UseTreeKind.{UseTreeKind}
use Rattle.paths.specs.declared.interned.PathId.{PathId}
use Rattle.items.specs.declared.visibility.RawVisibility.{RawVisibility}
use Rattle.tree_tables.specs.Contents.{ContentsBy, Shown, shown_of}
use Rattle.tree_tables.specs.declared.tree.TreeTables.{TreeTables}

-- what is held afterwards, from what was held before
unfoldable pub Became : TreeTables → TreeTables → (Shown → Shown) → Type 0
Became before after change = shown_of after ≡ change (shown_of before)

abbrev pub unchanged : Shown → Shown
unchanged c = c

-- ---- one table is another, and the rest stays
abbrev pub with_small : {P : Type 0} → List (Row SmallModItem) → ContentsBy P → ContentsBy P
with_small rows c = record { small = rows; big = c.big; ids = c.ids; children = c.children; attrs = c.attrs; top = c.top; visibilities = c.visibilities; ctors = c.ctors; uses = c.uses; paths = c.paths }

abbrev pub with_big : {P : Type 0} → List (Row BigModItem) → ContentsBy P → ContentsBy P
with_big rows c = record { small = c.small; big = rows; ids = c.ids; children = c.children; attrs = c.attrs; top = c.top; visibilities = c.visibilities; ctors = c.ctors; uses = c.uses; paths = c.paths }

abbrev pub with_ids : {P : Type 0} → List ModItemId → ContentsBy P → ContentsBy P
with_ids rows c = record { small = c.small; big = c.big; ids = rows; children = c.children; attrs = c.attrs; top = c.top; visibilities = c.visibilities; ctors = c.ctors; uses = c.uses; paths = c.paths }

abbrev pub with_children : {P : Type 0} → List ModItemId → ContentsBy P → ContentsBy P
with_children rows c = record { small = c.small; big = c.big; ids = c.ids; children = rows; attrs = c.attrs; top = c.top; visibilities = c.visibilities; ctors = c.ctors; uses = c.uses; paths = c.paths }

abbrev pub with_attrs : {P : Type 0} → List Attr → ContentsBy P → ContentsBy P
with_attrs rows c = record { small = c.small; big = c.big; ids = c.ids; children = c.children; attrs = rows; top = c.top; visibilities = c.visibilities; ctors = c.ctors; uses = c.uses; paths = c.paths }

abbrev pub with_top : {P : Type 0} → Option AttrsOrCfg → ContentsBy P → ContentsBy P
with_top list c = record { small = c.small; big = c.big; ids = c.ids; children = c.children; attrs = c.attrs; top = list; visibilities = c.visibilities; ctors = c.ctors; uses = c.uses; paths = c.paths }

abbrev pub with_visibilities : {P : Type 0} → List RawVisibility → ContentsBy P → ContentsBy P
with_visibilities rows c = record { small = c.small; big = c.big; ids = c.ids; children = c.children; attrs = c.attrs; top = c.top; visibilities = rows; ctors = c.ctors; uses = c.uses; paths = c.paths }

abbrev pub with_ctors : {P : Type 0} → List RawVisibilityId → ContentsBy P → ContentsBy P
with_ctors rows c = record { small = c.small; big = c.big; ids = c.ids; children = c.children; attrs = c.attrs; top = c.top; visibilities = c.visibilities; ctors = rows; uses = c.uses; paths = c.paths }

abbrev pub with_uses : {P : Type 0} → List UseTree → ContentsBy P → ContentsBy P
with_uses rows c = record { small = c.small; big = c.big; ids = c.ids; children = c.children; attrs = c.attrs; top = c.top; visibilities = c.visibilities; ctors = c.ctors; uses = rows; paths = c.paths }

abbrev pub with_paths : {P : Type 0} → P → ContentsBy P → ContentsBy P
with_paths rows c = record { small = c.small; big = c.big; ids = c.ids; children = c.children; attrs = c.attrs; top = c.top; visibilities = c.visibilities; ctors = c.ctors; uses = c.uses; paths = rows }

-- ---- one row more
-- a small record, with an even id
abbrev pub add_small : Row SmallModItem → Shown → Shown
add_small row c = with_ids (c.ids ++ record { index = 2 * length c.small } ∷ []) (with_small (c.small ++ row ∷ []) c)

-- a big record, with an odd id
abbrev pub add_big : Row BigModItem → Shown → Shown
add_big row c = with_ids (c.ids ++ record { index = 2 * length c.big + 1 } ∷ []) (with_big (c.big ++ row ∷ []) c)

abbrev pub add_attr : Attr → Shown → Shown
add_attr attr c = with_attrs (c.attrs ++ attr ∷ []) c

abbrev pub add_ctor : RawVisibilityId → Shown → Shown
add_ctor id c = with_ctors (c.ctors ++ id ∷ []) c

abbrev pub add_use : UseTreeKind PathId → Shown → Shown
add_use kind c = with_uses (c.uses ++ record { kind = kind } ∷ []) c

abbrev pub replace_use : ℕ → UseTreeKind PathId → Shown → Shown
replace_use place kind c = with_uses (slice_set c.uses place (record { kind = kind })) c

-- unless an equal one is held
abbrev pub add_path : Path → Shown → Shown
add_path path c = with_paths (inserted same_path c.paths path) c

abbrev pub add_visibility : RawVisibility → Shown → Shown
add_visibility visibility c = with_visibilities (inserted same_visibility c.visibilities visibility) c

-- ---- the ids from a place on become children
abbrev pub copy_ids : ℕ → Shown → Shown
copy_ids from c = with_children (c.children ++ drop from c.ids) c

abbrev pub move_ids : ℕ → Shown → Shown
move_ids from c = with_ids (take from c.ids) (copy_ids from c)
