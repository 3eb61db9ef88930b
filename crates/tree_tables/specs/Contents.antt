-- What the tables of a tree hold, and would hold after going back.
use Rattle.std.specs.Prelude.{List, [], None, Option}
use Rattle.tables.specs.Held.{held, marked}
use Rattle.paths.specs.Kept.{held_paths, marked_paths, paths_in}
use Rattle.paths.specs.Spelling.{Path}
use Rattle.paths.specs.declared.interned.InternedPath.{InternedPath}
use Rattle.paths.specs.declared.name.Name.{Name}
use Rattle.items.specs.declared.attrs.Attr.{Attr}
use Rattle.items.specs.declared.attrs.AttrsOrCfg.{AttrsOrCfg}
use Rattle.items.specs.declared.ids.ModItemId.{ModItemId}
use Rattle.items.specs.declared.ids.RawVisibilityId.{RawVisibilityId}
use Rattle.items.specs.declared.rows.BigModItem.{BigModItem}
use Rattle.items.specs.declared.rows.Row.{Row}
use Rattle.items.specs.declared.rows.SmallModItem.{SmallModItem}
use Rattle.items.specs.declared.use_tree.UseTree.{UseTree}
use Rattle.items.specs.declared.visibility.RawVisibility.{RawVisibility}
use Rattle.tree_tables.specs.declared.tree.TreeTables.{TreeTables}

-- the rows of each table, and the paths as P
pub record ContentsBy (P : Type 0) : Type 0 where
  pub small : List (Row SmallModItem)
  pub big : List (Row BigModItem)
  pub ids : List ModItemId
  pub children : List ModItemId
  pub attrs : List Attr
  pub top : Option AttrsOrCfg
  pub visibilities : List RawVisibility
  pub ctors : List RawVisibilityId
  pub uses : List UseTree
  pub paths : P

-- paths as the rows of their two tables
abbrev pub Contents : Type 0
Contents = ContentsBy (List InternedPath × List Name)

-- paths by their meaning
abbrev pub Shown : Type 0
Shown = ContentsBy (List Path)

abbrev pub empty : Contents
empty = record {
  small = [];
  big = [];
  ids = [];
  children = [];
  attrs = [];
  top = None;
  visibilities = [];
  ctors = [];
  uses = [];
  paths = ([], []);
}

abbrev pub held_of : TreeTables → Contents
held_of c = record {
  small = held c.small;
  big = held c.big;
  ids = held c.ids;
  children = held c.children;
  attrs = held c.attrs;
  top = c.top;
  visibilities = held c.visibilities.rows;
  ctors = held c.ctors;
  uses = held c.uses;
  paths = held_paths c.paths;
}

unfoldable pub marked_of : TreeTables → Contents
marked_of c = record {
  small = marked c.small;
  big = marked c.big;
  ids = marked c.ids;
  children = marked c.children;
  attrs = marked c.attrs;
  top = c.top;
  visibilities = marked c.visibilities.rows;
  ctors = marked c.ctors;
  uses = marked c.uses;
  paths = marked_paths c.paths;
}

abbrev pub shown_of : TreeTables → Shown
shown_of c = record {
  small = held c.small;
  big = held c.big;
  ids = held c.ids;
  children = held c.children;
  attrs = held c.attrs;
  top = c.top;
  visibilities = held c.visibilities.rows;
  ctors = held c.ctors;
  uses = held c.uses;
  paths = paths_in c.paths;
}
