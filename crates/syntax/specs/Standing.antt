-- What the law gives to whoever reads a source.
use Rattle.std.specs.Prelude.{◌≡◌, ℕ, ◌+◌, ◌<◌, ◌≤◌, true, List, [], length, Some, ◌≢◌, slice_index_or}
use Rattle.syntax.specs.declared.kind.SyntaxKind.TheVariants.{File}
use Rattle.syntax.specs.declared.node.Node.{Node}
use Rattle.syntax.specs.Kinds.{number_of}
use Rattle.syntax.specs.Meaning.{Meaning, node_at}
use Rattle.syntax.specs.Table.{takes}
use Rattle.syntax.specs.Trees.{Siblings, none, node, height, listed, Fill, siblings, between}
use Rattle.syntax.specs.Law.{sound, are_children, lawful}

-- siblings are sound and children that `parent` takes, and so are those below them
abbrev pub Taken : ℕ → Node → Siblings → Type 0
Taken texts parent none = Unit {0}
Taken texts parent (node x children later) = (sound texts x ≡ true) × (takes parent.kind parent.mark x.kind ≡ true) × Taken texts x children × Taken texts parent later

-- node 0 is a File, and all others are below it, in at most 40 levels; this tree and no other has the nodes for its listing
pub record FileTree (m : Meaning) : Type 0 where
  pub root : Node
  pub children : Siblings
  pub first : node_at m 0 ≡ Some root
  pub kind : root.kind ≡ number_of File
  pub last : root.end ≡ length m.nodes
  pub tree : siblings 0 m.nodes ≡ node root children none
  pub fill : Fill 1 root.end children
  pub levels : height children ≤ 40
  pub taken : Taken (length m.texts) root children
  pub kept : are_children (length m.texts) root 0 0 40 1 children ≡ true
  pub listing : listed (node root children none) ≡ m.nodes
  pub only : (t : Siblings) (end : ℕ) → Fill 0 end t → listed t ≡ m.nodes → t ≡ node root children none

-- a node x of number i: its children fill the numbers up to its end
pub record Placed (m : Meaning) (i : ℕ) (x : Node) : Type 0 where
  pub above : i < x.end
  pub below : x.end ≤ length m.nodes
  pub sound_here : sound (length m.texts) x ≡ true
  pub fill : Fill (i + 1) x.end (between m.nodes (i + 1) x.end)
  pub taken : Taken (length m.texts) x (between m.nodes (i + 1) x.end)
  -- with so many levels left, they are in order and as many as the table allows
  pub levels : ℕ
  pub few_levels : levels ≤ 40
  pub kept : are_children (length m.texts) x 0 0 levels (i + 1) (between m.nodes (i + 1) x.end) ≡ true

-- texts have 1 to 255 bytes, and no two are equal
pub record Distinct (texts : List (List ℕ)) : Type 0 where
  pub some : (k : ℕ) → k < length texts → 1 ≤ length (slice_index_or texts k [])
  pub short : (k : ℕ) → k < length texts → length (slice_index_or texts k []) ≤ 255
  pub apart : (j k : ℕ) → j < k → k < length texts → slice_index_or texts j [] ≢ slice_index_or texts k []

pub record Standing (m : Meaning) : Type 0 where
  pub file : FileTree m
  pub placed : (i : ℕ) (x : Node) → node_at m i ≡ Some x → Placed m i x
  pub few_nodes : length m.nodes ≤ 4096
  pub few_texts : length m.texts ≤ 1024
  pub texts : Distinct m.texts

-- so it is of every lawful source
abbrev pub LawStands : Type 0
LawStands = (m : Meaning) → lawful m ≡ true → Standing m
