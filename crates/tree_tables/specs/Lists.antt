-- Attribute lists as parts of the table of attributes.
use Rattle.std.specs.Prelude.{◌≡◌, ◌+◌, ◌<◌, ◌≤◌, cond, ◌⊎◌, List, [], ◌++◌, length, Result, MatchResult, ◌==◌}
use Rattle.syntax.specs.declared.refusal.Refusal.{Refusal}
use Rattle.syntax.specs.declared.refusal.Refusal.TheVariants.{TableFull, NotFound}
use Rattle.tables.specs.Parts.{Inside, rows_of}
use Rattle.tables.specs.declared.part.Part.{Part}
use Rattle.items.specs.Attributes.{AttrListOf, enabled, disabled, merged}
use Rattle.items.specs.Records.{part_of}
use Rattle.items.specs.declared.attrs.Attr.{Attr}
use Rattle.items.specs.declared.attrs.AttrsOrCfg.{AttrsOrCfg}
use Rattle.items.specs.declared.attrs.AttrsOrCfg.TheVariants.{Enabled, CfgDisabled}
use Rattle.tree_tables.specs.Contents.{Shown, shown_of}
use Rattle.tree_tables.specs.Growth.{Became, unchanged, with_attrs}
use Rattle.tree_tables.specs.declared.tree.TreeTables.{TreeTables}

-- the list that a part and its condition are
abbrev pub list_in : List Attr → AttrsOrCfg → AttrListOf Attr
list_in rows (Enabled list) = enabled (rows_of rows list)
list_in rows (CfgDisabled cfg list) = disabled cfg.text (rows_of rows list)

-- what joining two parts writes behind all rows: both, unless one is empty
abbrev pub copied : List Attr → Part Attr → Part Attr → List Attr
copied rows a b = cond (a.count == 0) [] (cond (b.count == 0) [] (rows_of rows a ++ rows_of rows b))

-- the same of lists: nothing is taken behind a false condition
abbrev pub written : List Attr → AttrsOrCfg → AttrsOrCfg → List Attr
written rows (Enabled a) second = copied rows a (part_of second)
written rows (CfgDisabled cfg a) second = []

abbrev pub add_attrs : List Attr → Shown → Shown
add_attrs rows c = with_attrs (c.attrs ++ rows) c

-- two parts become one, unless there is no room for the copy
unfoldable pub Joins : Part Attr → Part Attr → TreeTables → TreeTables → Result (Part Attr) Refusal → Type 0
Joins a b before after r =
    let rows = (shown_of before).attrs in
    MatchResult r
    (λ list. (length rows + length (copied rows a b) ≤ 512) × Became before after (add_attrs (copied rows a b)) × Inside (shown_of after).attrs list × (rows_of (shown_of after).attrs list ≡ rows_of rows a ++ rows_of rows b))
    (λ e. (e ≡ TableFull) × (512 < length rows + length (copied rows a b)) × Became before after unchanged)

-- a list is put before another: refused with 8 exactly where one is no part of the table, and then with 6 exactly where there is no room
unfoldable pub Merges : AttrsOrCfg → AttrsOrCfg → TreeTables → TreeTables → Result AttrsOrCfg Refusal → Type 0
Merges first second before after r =
    let rows = (shown_of before).attrs in
    let Known : Type 0 = Inside rows (part_of first) × Inside rows (part_of second) in
    MatchResult r
    (λ list. Known × (length rows + length (written rows first second) ≤ 512) × Became before after (add_attrs (written rows first second)) × Inside (shown_of after).attrs (part_of list) × (list_in (shown_of after).attrs list ≡ merged (list_in rows first) (list_in rows second)))
    (λ e. (((e ≡ NotFound) × (Known → ⊥)) ⊎ ((e ≡ TableFull) × Known × (512 < length rows + length (written rows first second)))) × Became before after unchanged)
