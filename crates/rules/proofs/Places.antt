-- Places of leaves and imports, and the nodes that are lowered.
use Rattle.std.proofs.Common.{◌≡◌, ℕ, ◌+◌, ◌<◌, ◌≤◌, List, [], ◌∷◌, ◌++◌, map, length, drop, Some, None, Option, sym, refl, ap, ◌∙◌, append_assoc, arith, length-append}
use Rattle.std.proofs.lemmas.List.{drop-drop, drop_at, map-append, append-nil}
use Rattle.syntax.specs.Children.{child_of}
use Rattle.syntax.specs.Meaning.{Meaning, at}
use Rattle.syntax.specs.declared.kind.SyntaxKind.TheVariants.{UseTree}
use Rattle.syntax.specs.Trees.{Siblings, none, node, between}
use Rattle.syntax.specs.declared.walk.NodeRef.{NodeRef}
use Rattle.paths.specs.Joining.{none as no_prefix, Target}
use Rattle.paths.specs.Spelling.{Path}
use Rattle.rules.specs.Imports.{Leaf, leaves, joined, Import, target_of, import_at, imports_at}
use Rattle.rules.specs.Consequences.{Rising, PlacesRise, AtPlaces, LeavesStand, NodesStand}
use Rattle.rules.specs.Uses.{UseNode, single, glob, group, UseTrees, nothing, tree, size, listed, lowered, use_node_of, use_trees, nodes, nodes_from, nodes_at, tree_at}

abbrev LeavesRise : ℕ → ℕ → List Leaf → Type 0
LeavesRise low high [] = Unit {0}
LeavesRise low high (x ∷ later) = (low ≤ x.place) × (x.place < high) × LeavesRise (x.place + 1) high later

from_lower : (low lower high : ℕ) (xs : List Leaf) → lower ≤ low → LeavesRise low high xs → LeavesRise lower high xs
from_lower low lower high [] l h = tt
from_lower low lower high (x ∷ xs) l h = (omega (arith, h.0), h.1, h.2)

rise_append : (low mid high : ℕ) (xs ys : List Leaf) → low ≤ mid → mid ≤ high → LeavesRise low mid xs → LeavesRise mid high ys → LeavesRise low high (xs ++ ys)
rise_append low mid high [] ys l u h k = from_lower mid low high ys l k
rise_append low mid high (x ∷ xs) ys l u h k = (h.0, omega (arith, h.1), rise_append (x.place + 1) mid high xs ys (omega (arith, h.1)) u h.2 k)

leaves_rise : (groups : List (Option Path)) (place high : ℕ) (trees : UseTrees) → place + size trees ≤ high → LeavesRise place high (leaves groups place trees)
leaves_rise groups place high nothing u = tt
leaves_rise groups place high (tree (single p alias) members later) u =
    (omega arith, omega arith, from_lower (place + 1 + size members) (place + 1) high (leaves groups (place + 1 + size members) later) (omega arith) (leaves_rise groups (place + 1 + size members) high later (omega arith)))
leaves_rise groups place high (tree (glob p) members later) u =
    (omega arith, omega arith, from_lower (place + 1 + size members) (place + 1) high (leaves groups (place + 1 + size members) later) (omega arith) (leaves_rise groups (place + 1 + size members) high later (omega arith)))
leaves_rise groups place high (tree (group p) members later) u =
    rise_append place (place + 1 + size members) high (leaves (groups ++ (p ∷ [])) (place + 1) members) (leaves groups (place + 1 + size members) later) (omega arith) (omega arith)
    (from_lower (place + 1) place (place + 1 + size members) _ (omega arith) (leaves_rise (groups ++ (p ∷ [])) (place + 1) (place + 1 + size members) members (omega arith)))
    (leaves_rise groups (place + 1 + size members) high later (omega arith))

rising_lower : (low lower high : ℕ) (xs : List Import) → lower ≤ low → Rising low high xs → Rising lower high xs
rising_lower low lower high [] l h = tt
rising_lower low lower high (x ∷ xs) l h = (omega (arith, h.0), h.1, h.2)

import_rise : (o : Option Target) (x : Leaf) (low high : ℕ) (later : List Import) → low ≤ x.place → x.place < high → Rising (x.place + 1) high later → Rising low high (import_at o x later)
import_rise None x low high later l u h = rising_lower (x.place + 1) low high later (omega arith) h
import_rise (Some target) x low high later l u h = (l, u, h)

imports_rise : (low high : ℕ) (xs : List Leaf) → LeavesRise low high xs → Rising low high (imports_at xs)
imports_rise low high [] h = tt
imports_rise low high (x ∷ xs) h =
    import_rise (target_of (joined no_prefix x.groups) x.own) x low high (imports_at xs) h.0 h.1 (imports_rise (x.place + 1) high xs h.2)

pub places_rise : PlacesRise
places_rise trees = imports_rise 0 (size trees) (leaves [] 0 trees) (leaves_rise [] 0 (size trees) trees (omega arith))

length-listed : (trees : UseTrees) → length (listed trees) ≡ size trees
length-listed nothing = refl
length-listed (tree x members later) =
    let a = length-listed members in
    let b = length-listed later in
    let c = length-append (listed members) (listed later) in
    omega (arith, a, b, c)

places_append : (all : List UseNode) (xs ys : List Leaf) → AtPlaces all xs → AtPlaces all ys → AtPlaces all (xs ++ ys)
places_append all [] ys h k = k
places_append all (x ∷ xs) ys h k = (h.0, places_append all xs ys h.1 k)

-- what stands from a place on: a node, its members, and those after it
module _ (all : List UseNode) (place : ℕ) (x : UseNode) (members later : UseTrees) (rest : List UseNode) (e : drop place all ≡ x ∷ (listed members ++ listed later) ++ rest) where
  here : at all place ≡ Some x
  here = rw e refl

  within : drop (place + 1) all ≡ listed members ++ (listed later ++ rest)
  within = sym (drop-drop 1 place all) ∙ (ap (drop 1) e ∙ append_assoc (listed members) (listed later) rest)

  after : drop (place + 1 + size members) all ≡ listed later ++ rest
  after = sym (drop-drop (size members) (place + 1) all) ∙ (ap (drop (size members)) within ∙ drop_at (listed members) (listed later ++ rest) (size members) (length-listed members))

leaves_at : (all : List UseNode) (groups : List (Option Path)) (place : ℕ) (trees : UseTrees) (rest : List UseNode) → drop place all ≡ listed trees ++ rest → AtPlaces all (leaves groups place trees)
leaves_at all groups place nothing rest e = tt
leaves_at all groups place (tree (single p alias) members later) rest e =
    (here all place (single p alias) members later rest e, leaves_at all groups (place + 1 + size members) later rest (after all place (single p alias) members later rest e))
leaves_at all groups place (tree (glob p) members later) rest e =
    (here all place (glob p) members later rest e, leaves_at all groups (place + 1 + size members) later rest (after all place (glob p) members later rest e))
leaves_at all groups place (tree (group p) members later) rest e =
    places_append all (leaves (groups ++ (p ∷ [])) (place + 1) members) (leaves groups (place + 1 + size members) later)
    (leaves_at all (groups ++ (p ∷ [])) (place + 1) members (listed later ++ rest) (within all place (group p) members later rest e))
    (leaves_at all groups (place + 1 + size members) later rest (after all place (group p) members later rest e))

pub leaves-stand : LeavesStand
leaves-stand trees = leaves_at (listed trees) [] 0 trees [] (sym (append-nil (listed trees)))

module _ (m : Meaning) where
  abbrev Says : List NodeRef → UseTrees → Type 0
  Says xs trees = map (use_node_of m) xs ≡ map Some (listed trees)

  node-says : (o : Option UseNode) (x : NodeRef) (xs ys : List NodeRef) (members later : UseTrees) → use_node_of m x ≡ o → Says xs members → Says ys later → Says (nodes o x xs ys) (lowered o members later)
  node-says None x xs ys members later e f g = g
  node-says (Some (single p alias)) x xs ys members later e f g = cc
  node-says (Some (glob p)) x xs ys members later e f g = cc
  node-says (Some (group p)) x xs ys members later e f g =
      let a = map-append (use_node_of m) xs ys in
      let b = map-append {B = Option UseNode} Some (listed members) (listed later) in
      cc

  nodes-say : (i : ℕ) (t : Siblings) → Says (nodes_from m i t) (use_trees m i t)
  nodes-say i none = refl
  nodes-say i (node x children later) =
      let here : NodeRef = record { number = i; node = x } in
      node-says (use_node_of m here) here (nodes_from m (i + 1) children) (nodes_from m x.end later) (use_trees m (i + 1) children) (use_trees m x.end later) refl (nodes-say (i + 1) children) (nodes-say x.end later)

tree_says : (m : Meaning) (o : Option NodeRef) → Says m (nodes_at m o) (tree_at m o)
tree_says m None = refl
tree_says m (Some x) = nodes-say m x.number (between m.nodes x.number x.node.end)

pub nodes-stand : NodesStand
nodes-stand m x = tree_says m (child_of UseTree m x)
