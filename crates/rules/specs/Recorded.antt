-- What lowering records, and the limits of a tree.
use Rattle.std.specs.Prelude.{ℕ, ◌+◌, Bool, cond, ◌&&◌, ◌||◌, List, [], ◌∷◌, ◌++◌, map, length, Some, None, Option, nat_le}
use Rattle.syntax.specs.Meaning.{Meaning}
use Rattle.syntax.specs.Table.{is}
use Rattle.syntax.specs.Trees.{Siblings, none, node}
use Rattle.syntax.specs.declared.kind.SyntaxKind.TheVariants as kind
use Rattle.syntax.specs.declared.walk.NodeRef.{NodeRef}
use Rattle.paths.specs.Spelling.{Path}
use Rattle.items.specs.Attributes.{Attribute, AttrList, enabled, disabled, attributes_of}
use Rattle.items.specs.Written.{Visibility, everywhere, in_crate, in_self, in_module, visibility_of}
use Rattle.rules.specs.Constructors.{Constructor, none as no_constructor, one, all}
use Rattle.rules.specs.Entries.{Record, Struct, Union, Enum, Function, TypeAlias, Static, Const, Mod, Trait, Impl, Use, ExternCrate, MacroCall, MacroRules, Macro2, ExternBlock, record_of, has_items}
use Rattle.rules.specs.Equality.{distinct}
use Rattle.rules.specs.Inventory.{Counts}
use Rattle.rules.specs.Uses.{UseNode, single, glob, group, listed}

-- what is recorded besides items
pub data Recorded : Type 0 where
  visibility : Visibility → Recorded
  -- of a constructor's list
  member : Path → Recorded
  use_node : UseNode → Recorded
  -- of a macro call
  call : Path → Recorded
  attribute : Attribute → Recorded

abbrev constructor_recorded : Constructor → List Recorded
constructor_recorded no_constructor = []
constructor_recorded (one v) = visibility v ∷ []
constructor_recorded (all ps) = map (λ p. visibility (in_module p)) ps ++ map member ps

-- an item's visibility, and then what its record refers to
abbrev pub referred : Record → List Recorded → List Recorded
referred (Struct name v c) inside = visibility v ∷ constructor_recorded c
referred (Union name v) inside = visibility v ∷ []
referred (Enum name v) inside = visibility v ∷ []
referred (Function name v) inside = visibility v ∷ []
referred (TypeAlias name v) inside = visibility v ∷ []
referred (Static name v) inside = visibility v ∷ []
referred (Const name v) inside = visibility v ∷ []
referred (Mod name v items) inside = visibility v ∷ inside
referred (Trait name v) inside = visibility v ∷ []
referred (Impl of_trait) inside = []
referred (Use v trees) inside = visibility v ∷ map use_node (listed trees)
referred (ExternCrate name alias v) inside = visibility v ∷ []
referred (MacroCall p expand) inside = call p ∷ []
referred (MacroRules name) inside = []
referred (Macro2 name v) inside = visibility v ∷ []
referred (ExternBlock ids) inside = inside

abbrev pub collected_in : AttrList → List Recorded
collected_in (enabled xs) = map attribute xs
collected_in (disabled text xs) = map attribute xs

-- these look for the name or the use tree after the visibility is recorded
abbrev pub records_first : ℕ → Bool
records_first k = is kind.Struct k || (is kind.Union k || (is kind.Enum k || (is kind.Fn k || is kind.Use k)))

-- by an item, given what is recorded by the items inside it; the attributes come last
abbrev by_item : Meaning → NodeRef → List Recorded → Option Record → List Recorded
by_item m x inside None = cond (records_first x.node.kind) (visibility (visibility_of m x) ∷ []) []
by_item m x inside (Some r) = referred r inside ++ collected_in (attributes_of m x)

-- by siblings, the first of which has number i
abbrev pub recorded_from : Meaning → ℕ → Siblings → List Recorded
recorded_from m i none = []
recorded_from m i (node x children later) =
    let here : NodeRef = record { number = i; node = x } in
    by_item m here (cond (has_items x) (recorded_from m (i + 1) children) []) (record_of m here []) ++ recorded_from m x.end later

-- what takes entries in a table, in order
abbrev pub taken : {A : Type 0} → (Recorded → List A) → List Recorded → List A
taken f [] = []
taken f (x ∷ later) = f x ++ taken f later

abbrev attribute_in : Recorded → List Attribute
attribute_in (visibility v) = []
attribute_in (member p) = []
attribute_in (use_node x) = []
attribute_in (call p) = []
attribute_in (attribute a) = a ∷ []

abbrev member_in : Recorded → List Path
member_in (visibility v) = []
member_in (member p) = p ∷ []
member_in (use_node x) = []
member_in (call p) = []
member_in (attribute a) = []

abbrev use_node_in : Recorded → List UseNode
use_node_in (visibility v) = []
use_node_in (member p) = []
use_node_in (use_node x) = x ∷ []
use_node_in (call p) = []
use_node_in (attribute a) = []

abbrev of_module : Visibility → List Path
of_module everywhere = []
of_module in_crate = []
of_module (in_self e) = []
of_module (in_module p) = p ∷ []

abbrev pub module_in : Recorded → List Path
module_in (visibility v) = of_module v
module_in (member p) = []
module_in (use_node x) = []
module_in (call p) = []
module_in (attribute a) = []

abbrev of_path : Option Path → List Path
of_path None = []
of_path (Some p) = p ∷ []

abbrev of_use : UseNode → List Path
of_use (single p alias) = p ∷ []
of_use (glob p) = of_path p
of_use (group p) = of_path p

abbrev pub path_in : Recorded → List Path
path_in (visibility v) = of_module v
path_in (member p) = []
path_in (use_node x) = of_use x
path_in (call p) = p ∷ []
path_in (attribute a) = a.path ∷ []

-- what the tables hold: attributes, constructor lists, use nodes
abbrev pub attributes_in : List Recorded → List Attribute
attributes_in rs = taken attribute_in rs

abbrev pub members_in : List Recorded → List Path
members_in rs = taken member_in rs

abbrev pub use_nodes_in : List Recorded → List UseNode
use_nodes_in rs = taken use_node_in rs

-- Module visibilities and paths, each once, by first appearance
abbrev pub modules_in : List Recorded → List Path
modules_in rs = distinct [] (taken module_in rs)

abbrev pub paths_in : List Recorded → List Path
paths_in rs = distinct [] (taken path_in rs)

-- the names of paths, one after another
abbrev pub segment_count : List Path → ℕ
segment_count [] = 0
segment_count (p ∷ later) = length p.names + segment_count later

-- the limits of a tree with so many items
abbrev pub fits : Counts → List Recorded → Bool
fits items rs =
    nat_le items.smalls 512
    && (nat_le items.bigs 256
    && (nat_le (length (attributes_in rs)) 512
    && (nat_le (length (modules_in rs)) 128
    && (nat_le (length (members_in rs)) 256
    && (nat_le (length (use_nodes_in rs)) 1024
    && (nat_le (length (paths_in rs)) 512
    && nat_le (segment_count (paths_in rs)) 2048))))))
