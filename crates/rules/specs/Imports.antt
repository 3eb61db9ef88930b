-- The imports of a use tree: one for each leaf whose path joins the paths of the groups around it.
use Rattle.std.specs.Prelude.{◌≡◌, ℕ, ◌+◌, ◌-◌, true, List, [], ◌∷◌, ◌++◌, take, drop, Some, None, Option}
use Rattle.syntax.specs.Children.{StandsIn}
use Rattle.syntax.specs.Law.{lawful}
use Rattle.syntax.specs.Meaning.{Meaning}
use Rattle.syntax.specs.declared.node.Node.{Node}
use Rattle.syntax.specs.declared.walk.NodeRef.{NodeRef}
use Rattle.paths.specs.Joining.{Prefix, none, Target, join_or, single_target, glob_target}
use Rattle.paths.specs.Spelling.{Path}
use Rattle.items.specs.declared.use_tree.ImportAlias.{ImportAlias}
use Rattle.rules.specs.Uses.{UseNode, single, glob, group, UseTrees, nothing, tree, size, use_tree_of}

-- a lowered single or glob, with the paths of the groups around it, from the outermost, and its place
pub record Leaf : Type 0 where
  pub groups : List (Option Path)
  pub own : UseNode
  pub place : ℕ

-- leaves in node order; the first node has the place `place`
abbrev pub leaves : List (Option Path) → ℕ → UseTrees → List Leaf
leaves groups place nothing = []
leaves groups place (tree (single p alias) members later) =
    record { groups = groups; own = single p alias; place = place } ∷ leaves groups (place + 1 + size members) later
leaves groups place (tree (glob p) members later) =
    record { groups = groups; own = glob p; place = place } ∷ leaves groups (place + 1 + size members) later
leaves groups place (tree (group p) members later) =
    leaves (groups ++ (p ∷ [])) (place + 1) members ++ leaves groups (place + 1 + size members) later

-- the joins of groups, from the outermost inward
abbrev pub joined : Prefix → List (Option Path) → Prefix
joined prefix [] = prefix
joined prefix (p ∷ ps) = joined (join_or prefix p) ps

pub record Import : Type 0 where
  pub target : Target
  pub alias : Option ImportAlias
  pub place : ℕ

abbrev pub target_of : Prefix → UseNode → Option Target
target_of prefix (single p alias) = single_target prefix p
target_of prefix (glob p) = glob_target prefix p
target_of prefix (group p) = None

abbrev alias_of : UseNode → Option ImportAlias
alias_of (single p alias) = alias
alias_of (glob p) = None
alias_of (group p) = None

-- an import for each leaf for which all joins succeed, in node order
abbrev pub import_at : Option Target → Leaf → List Import → List Import
import_at None x later = later
import_at (Some target) x later = record { target = target; alias = alias_of x.own; place = x.place } ∷ later

abbrev pub imports_at : List Leaf → List Import
imports_at [] = []
imports_at (x ∷ later) = import_at (target_of (joined none x.groups) x.own) x (imports_at later)

abbrev pub imports : UseTrees → List Import
imports trees = imports_at (leaves [] 0 trees)

-- of a Use node
abbrev pub imports_of : Meaning → NodeRef → List Import
imports_of m x = imports (use_tree_of m x)

-- the nodes of x and of all below it
abbrev pub part_of : Meaning → NodeRef → List Node
part_of m x = take (x.node.end - x.number) (drop x.number m.nodes)

-- the use tree and the imports of a node depend on its part of the source alone
abbrev pub ImportsLocal : Type 0
ImportsLocal =
    (m n : Meaning) (x : NodeRef) → lawful m ≡ true → StandsIn m x → part_of m x ≡ part_of n x → (use_tree_of m x ≡ use_tree_of n x) × (imports_of m x ≡ imports_of n x)
