-- What the calls besides lowering and printing answer.
use Rattle.std.specs.Prelude.{ℕ, ◌+◌, cond, List, [], ◌∷◌, map, length, Some, None, Option, ◌==◌}
use Rattle.std.specs.Option.{option_map}
use Rattle.syntax.specs.Meaning.{Meaning, at, node_at}
use Rattle.syntax.specs.Table.{is}
use Rattle.syntax.specs.declared.kind.SyntaxKind.TheVariants as kind
use Rattle.syntax.specs.declared.node.Node.{Node}
use Rattle.syntax.specs.declared.refusal.Refusal.{Refusal}
use Rattle.syntax.specs.declared.refusal.Refusal.TheVariants.{TableFull, NotFound}
use Rattle.syntax.specs.declared.walk.NodeRef.{NodeRef}
use Rattle.paths.specs.Spelling.{Path}
use Rattle.items.specs.Written.{Visibility, everywhere, in_crate, in_self, in_module}
use Rattle.items.specs.declared.visibility.VisibilityExplicitness.TheVariants.{Explicit, Implicit}
use Rattle.rules.specs.Entries.{Record, Struct, Union, Enum, Function, TypeAlias, Static, Const, Mod, Trait, Impl, Use, ExternCrate, MacroCall, MacroRules, Macro2, ExternBlock, Entry, Entries}
use Rattle.rules.specs.Holding.{find}
use Rattle.rules.specs.Imports.{Import, imports}
use Rattle.rules.specs.Inventory.{no_ids}
use Rattle.rules.specs.Recorded.{use_node, fits}
use Rattle.rules.specs.Uses.{UseTrees, nothing, tree, listed, use_tree_of, use_nodes}

abbrev imports_in : Record → Option (List Import)
imports_in (Struct n v c) = None
imports_in (Union n v) = None
imports_in (Enum n v) = None
imports_in (Function n v) = None
imports_in (TypeAlias n v) = None
imports_in (Static n v) = None
imports_in (Const n v) = None
imports_in (Mod n v items) = None
imports_in (Trait n v) = None
imports_in (Impl of_trait) = None
imports_in (Use v trees) = Some (imports trees)
imports_in (ExternCrate n alias v) = None
imports_in (MacroCall p expand) = None
imports_in (MacroRules n) = None
imports_in (Macro2 n v) = None
imports_in (ExternBlock ids) = None

abbrev of_entry : Option Entry → Option (List Import)
of_entry None = None
of_entry (Some e) = imports_in e.item

-- `expand`: none, a refusal with 8, for an id that names nothing or no use item
abbrev pub expanded : Entries → ℕ → Option (List Import)
expanded es n = of_entry (find n es)

-- how many names the paths of imports have; with the number of imports, the lengths that suffice
abbrev pub name_count : List Import → ℕ
name_count [] = 0
name_count (x ∷ later) = length x.target.path.names + name_count later

-- the visibility of a number, where so many Module visibilities were recorded; none is a refusal with 8
abbrev pub visibility_at : List Path → ℕ → Option Visibility
visibility_at modules number =
    cond (number == 4294967295) (Some everywhere)
    (cond (number == 4294967294) (Some (in_self Implicit))
    (cond (number == 4294967293) (Some (in_self Explicit))
    (cond (number == 4294967292) (Some in_crate) (option_map in_module (at modules number)))))

-- `lower_use_tree`: refused, none if the outermost node is absent or not lowered, or the tree and its nodes by place
pub data UseAnswer : Type 0 where
  refused : Refusal → UseAnswer
  passed_over : UseAnswer
  made : UseTrees → List NodeRef → UseAnswer

-- within the limits of an empty tree
abbrev within : Meaning → NodeRef → UseTrees → UseAnswer
within m x nothing = passed_over
within m x (tree y members later) =
    let trees = tree y members later in
    cond (fits no_ids (map use_node (listed trees))) (made trees (use_nodes m x)) (refused TableFull)

abbrev of_node : Meaning → ℕ → Option Node → UseAnswer
of_node m n None = refused NotFound
of_node m n (Some x) = cond (is kind.Use x.kind) (within m (record { number = n; node = x }) (use_tree_of m (record { number = n; node = x }))) (refused NotFound)

abbrev pub use_lowering : Meaning → ℕ → UseAnswer
use_lowering m n = of_node m n (node_at m n)
