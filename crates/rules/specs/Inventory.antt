-- The entries of items, and the ids that they get.
use Rattle.std.specs.Prelude.{ℕ, zero, suc, ◌+◌, cond, List, [], ◌∷◌, ◌++◌, Some, None, Option}
use Rattle.syntax.specs.Meaning.{Meaning, node_at}
use Rattle.syntax.specs.Trees.{Siblings, none, node, between}
use Rattle.syntax.specs.declared.node.Node.{Node}
use Rattle.syntax.specs.declared.walk.NodeRef.{NodeRef}
use Rattle.items.specs.Attributes.{attributes_of}
use Rattle.rules.specs.Entries.{Record, Size, small, big, size_of, id_of, record_of, has_items, Entries, empty, entry, ids}

-- how many ids of each size
pub record Counts : Type 0 where
  pub smalls : ℕ
  pub bigs : ℕ

abbrev pub of_size : Size → Counts → ℕ
of_size small n = n.smalls
of_size big n = n.bigs

abbrev pub plus_one : Size → Counts → Counts
plus_one small n = record { smalls = n.smalls + 1; bigs = n.bigs }
plus_one big n = record { smalls = n.smalls; bigs = n.bigs + 1 }

-- with those of entries, nested ones included
abbrev pub plus : Counts → Entries → Counts
plus n empty = n
plus n (entry e inside later) = plus (plus_one (size_of e.item) (plus n inside)) later

-- an item comes after the items inside it, and its index is the number of earlier ids of its size
abbrev pub placed : Meaning → Counts → NodeRef → Entries → (Counts → Entries) → Option Record → Entries
placed m earlier x inside later None = later earlier
placed m earlier x inside later (Some r) =
    entry (record { id = id_of (size_of r) (of_size (size_of r) (plus earlier inside)); ast_id = x.number; item = r; attrs = attributes_of m x }) inside
    (later (plus_one (size_of r) (plus earlier inside)))

abbrev item_at : Meaning → Counts → NodeRef → Entries → (Counts → Entries) → Entries
item_at m earlier x inside later = placed m earlier x inside later (record_of m x (ids inside))

-- the entries of siblings, the first of which has number i, after so many ids
abbrev pub entries_from : Meaning → Counts → ℕ → Siblings → Entries
entries_from m earlier i none = empty
entries_from m earlier i (node x children later) =
    item_at m earlier (record { number = i; node = x }) (cond (has_items x) (entries_from m earlier (i + 1) children) empty) (λ n. entries_from m n x.end later)

abbrev pub alone : List Node → ℕ → Option Node → Siblings
alone nodes i None = none
alone nodes i (Some x) = between nodes i x.end

-- the node of a number, with what is below it
abbrev pub node_tree : Meaning → ℕ → Siblings
node_tree m i = alone m.nodes i (node_at m i)

abbrev pub below : List Node → Option Node → Siblings
below nodes None = none
below nodes (Some x) = between nodes 1 x.end

-- the children of the root, with what is below them
abbrev pub root_items : Meaning → Siblings
root_items m = below m.nodes (node_at m 0)

-- nothing was lowered before
abbrev pub no_ids : Counts
no_ids = record { smalls = 0; bigs = 0 }

-- ids in the order in which they are given: those inside an item before its own
abbrev pub own : Size → Size → ℕ → List ℕ
own small small id = id ∷ []
own small big id = []
own big small id = []
own big big id = id ∷ []

abbrev pub ids_given : Size → Entries → List ℕ
ids_given size empty = []
ids_given size (entry e inside later) = ids_given size inside ++ (own size (size_of e.item) e.id ++ ids_given size later)

-- so many ids of a size, from an index on
abbrev pub ids_from : Size → ℕ → ℕ → List ℕ
ids_from size index zero = []
ids_from size index (suc count) = id_of size index ∷ ids_from size (index + 1) count
