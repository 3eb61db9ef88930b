-- The use trees of a source, as they are lowered.
use Rattle.std.specs.Prelude.{ℕ, ◌+◌, cond, List, [], ◌∷◌, ◌++◌, Some, None, Option, ◌==◌, nat_le}
use Rattle.std.specs.Option.{option_map}
use Rattle.syntax.specs.Children.{child_of}
use Rattle.syntax.specs.Meaning.{Meaning}
use Rattle.syntax.specs.Table.{is, is_group}
use Rattle.syntax.specs.Trees.{Siblings, none, node, between}
use Rattle.syntax.specs.declared.kind.SyntaxKind.TheVariants as kind
use Rattle.syntax.specs.declared.walk.NodeRef.{NodeRef}
use Rattle.paths.specs.Names.{name_of}
use Rattle.paths.specs.Reading.{path_of}
use Rattle.paths.specs.Spelling.{Path}
use Rattle.paths.specs.declared.mod_path.PathKind.TheVariants.{Abs}
use Rattle.paths.specs.declared.name.Name.{Name}
use Rattle.items.specs.declared.use_tree.ImportAlias.{ImportAlias}
use Rattle.items.specs.declared.use_tree.ImportAlias.TheVariants.{Underscore, Alias}

-- a lowered use node: `p`, `p as x`; `p::*`, `*`; `p::{..}`, `{..}`
pub data UseNode : Type 0 where
  single : Path → Option ImportAlias → UseNode
  glob : Option Path → UseNode
  group : Option Path → UseNode

-- lowered use nodes: none, or one with its members, and then those after it
pub data UseTrees : Type 0 where
  nothing : UseTrees
  tree : UseNode → UseTrees → UseTrees → UseTrees

abbrev renamed : Option Name → ImportAlias
renamed None = Underscore
renamed (Some n) = Alias n

-- a Rename is an alias: its text, or the underscore
abbrev alias_in : Option NodeRef → Option ImportAlias
alias_in None = None
alias_in (Some x) = Some (renamed (name_of x.node.text))

abbrev pub alias_of : Meaning → NodeRef → Option ImportAlias
alias_of m x = alias_in (child_of kind.Rename m x)

-- `::` without names
abbrev pub bare : Path
bare = record { kind = Abs; names = [] }

abbrev pub path_in : Meaning → Option NodeRef → Option (Option Path)
path_in m None = Some None
path_in m (Some x) = option_map Some (path_of m x)

-- none if the path is unreadable; else the path, if there is one
abbrev pub use_path : Meaning → NodeRef → Option (Option Path)
use_path m x = cond (nat_le 5 x.node.mark) (Some (Some bare)) (path_in m (child_of kind.Path m x))

-- a single has a path
abbrev as_single : Option ImportAlias → Option Path → Option UseNode
as_single alias None = None
as_single alias (Some p) = Some (single p alias)

-- a glob has no Rename
abbrev as_glob : Option ImportAlias → Option Path → Option UseNode
as_glob None p = Some (glob p)
as_glob (Some alias) p = None

abbrev marked : ℕ → Option ImportAlias → Option (Option Path) → Option UseNode
marked mark alias None = None
marked mark alias (Some p) = cond (mark == 0) (as_single alias p) (cond (is_group mark) (Some (group p)) (as_glob alias p))

-- what a use node is, if it is lowered wherever those around it are
abbrev pub use_node_of : Meaning → NodeRef → Option UseNode
use_node_of m x = cond (is kind.UseTree x.node.kind) (marked x.node.mark (alias_of m x) (use_path m x)) None

-- only groups have members
abbrev pub lowered : Option UseNode → UseTrees → UseTrees → UseTrees
lowered None members later = later
lowered (Some (single p alias)) members later = tree (single p alias) nothing later
lowered (Some (glob p)) members later = tree (glob p) nothing later
lowered (Some (group p)) members later = tree (group p) members later

-- the lowered nodes among siblings, and below them; the first sibling has number i
abbrev pub use_trees : Meaning → ℕ → Siblings → UseTrees
use_trees m i none = nothing
use_trees m i (node x children later) = lowered (use_node_of m (record { number = i; node = x })) (use_trees m (i + 1) children) (use_trees m x.end later)

abbrev pub tree_at : Meaning → Option NodeRef → UseTrees
tree_at m None = nothing
tree_at m (Some x) = use_trees m x.number (between m.nodes x.number x.node.end)

-- the use tree of a Use node; nothing if its outermost node is absent or not lowered
abbrev pub use_tree_of : Meaning → NodeRef → UseTrees
use_tree_of m x = tree_at m (child_of kind.UseTree m x)

abbrev pub size : UseTrees → ℕ
size nothing = 0
size (tree x members later) = 1 + size members + size later

-- in node order: a node, its members, and those after it
abbrev pub listed : UseTrees → List UseNode
listed nothing = []
listed (tree x members later) = x ∷ (listed members ++ listed later)

abbrev pub nodes : Option UseNode → NodeRef → List NodeRef → List NodeRef → List NodeRef
nodes None x members later = later
nodes (Some (single p alias)) x members later = x ∷ later
nodes (Some (glob p)) x members later = x ∷ later
nodes (Some (group p)) x members later = x ∷ (members ++ later)

-- the nodes of the source that are lowered, in node order
abbrev pub nodes_from : Meaning → ℕ → Siblings → List NodeRef
nodes_from m i none = []
nodes_from m i (node x children later) =
    let here : NodeRef = record { number = i; node = x } in
    nodes (use_node_of m here) here (nodes_from m (i + 1) children) (nodes_from m x.end later)

abbrev pub nodes_at : Meaning → Option NodeRef → List NodeRef
nodes_at m None = []
nodes_at m (Some x) = nodes_from m x.number (between m.nodes x.number x.node.end)

-- of a Use node: from place to node
abbrev pub use_nodes : Meaning → NodeRef → List NodeRef
use_nodes m x = nodes_at m (child_of kind.UseTree m x)
