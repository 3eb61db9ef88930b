-- What follows from the rules about ids, places and runs.
use Rattle.std.specs.Prelude.{◌≡◌, ℕ, ◌+◌, ◌<◌, ◌≤◌, true, false, cond, List, [], ◌∷◌, ◌++◌, map, length, Some, ◌≢◌}
use Rattle.syntax.specs.Children.{children}
use Rattle.syntax.specs.Kinds.{number_of, is_item}
use Rattle.syntax.specs.Law.{lawful}
use Rattle.syntax.specs.Meaning.{Meaning, at, node_at}
use Rattle.syntax.specs.Trees.{Siblings}
use Rattle.syntax.specs.declared.kind.SyntaxKind.TheVariants.{Struct as StructNode}
use Rattle.syntax.specs.declared.node.Node.{Node}
use Rattle.syntax.specs.declared.refusal.Refusal.TheVariants.{IndexTooLarge}
use Rattle.syntax.specs.declared.walk.NodeRef.{NodeRef}
use Rattle.paths.specs.Spelling.{Path}
use Rattle.paths.specs.declared.name.Name.{Name}
use Rattle.items.specs.Attributes.{attributes_of}
use Rattle.items.specs.Written.{Visibility, visibility_of}
use Rattle.rules.specs.Constructors.{Constructor, fields_of}
use Rattle.rules.specs.Entries.{Struct, Size, Entry, Entries, empty, ids, followed, record_of}
use Rattle.rules.specs.Equality.{has, distinct}
use Rattle.rules.specs.Holding.{Each}
use Rattle.rules.specs.Imports.{Leaf, leaves, Import, imports}
use Rattle.rules.specs.Inventory.{Counts, of_size, plus, no_ids, entries_from, ids_given, ids_from}
use Rattle.rules.specs.Modules.{Tree, Place, AdmitsEach, Callable, EachAtOrAbove, Same}
use Rattle.rules.specs.Recorded.{Recorded, modules_in, paths_in}
use Rattle.rules.specs.Runs.{Call, root, item, new, appended, table_full, refusal, answers, lowered, inventory, is_refused}
use Rattle.rules.specs.Uses.{UseNode, UseTrees, size, listed, use_node_of, use_tree_of, use_nodes}

-- the ids of each size are those after the earlier ones, in order and without a gap, and they are counted
pub record IdsInOrder (m : Meaning) (earlier : Counts) (i : ℕ) (items : Siblings) (s : Size) : Type 0 where
  pub given : ids_given s (entries_from m earlier i items) ≡ ids_from s (of_size s earlier) (length (ids_given s (entries_from m earlier i items)))
  pub counted : of_size s (plus earlier (entries_from m earlier i items)) ≡ of_size s earlier + length (ids_given s (entries_from m earlier i items))

abbrev pub IdsStand : Type 0
IdsStand = (m : Meaning) (earlier : Counts) (i : ℕ) (items : Siblings) (s : Size) → IdsInOrder m earlier i items s

-- places from `low` on rise, and stay below `high`
abbrev pub Rising : ℕ → ℕ → List Import → Type 0
Rising low high [] = Unit {0}
Rising low high (x ∷ later) = (low ≤ x.place) × (x.place < high) × Rising (x.place + 1) high later

abbrev pub PlacesRise : Type 0
PlacesRise = (trees : UseTrees) → Rising 0 (size trees) (imports trees)

-- each leaf is the lowered node of its place
abbrev pub AtPlaces : List UseNode → List Leaf → Type 0
AtPlaces nodes [] = Unit {0}
AtPlaces nodes (x ∷ later) = (at nodes x.place ≡ Some x.own) × AtPlaces nodes later

abbrev pub LeavesStand : Type 0
LeavesStand = (trees : UseTrees) → AtPlaces (listed trees) (leaves [] 0 trees)

-- from place to node: what each of these nodes says is the lowered node of its place
abbrev pub NodesStand : Type 0
NodesStand = (m : Meaning) (x : NodeRef) → map (use_node_of m) (use_nodes m x) ≡ map Some (listed (use_tree_of m x))

-- what a run makes of a tree is the inventory that the source, the calls and their refusals give
abbrev pub InventoryStands : Type 0
InventoryStands = (m : Meaning) (calls : List Call) → (lowered m new calls).entries ≡ inventory m empty calls (map is_refused (answers m new calls))

-- its ids are 0, 2, 4, .. and 1, 3, 5, .., each once, in the order in which they are given
abbrev pub RunIdsStand : Type 0
RunIdsStand =
    (m : Meaning) (calls : List Call) (s : Size) → ids_given s (lowered m new calls).entries ≡ ids_from s 0 (of_size s (plus no_ids (lowered m new calls).entries))

-- no table is past its limit
abbrev pub LimitsStand : Type 0
LimitsStand = (m : Meaning) (calls : List Call) → table_full (lowered m new calls) ≡ false

-- no call is refused with 7: a source has too few nodes
abbrev pub IndexNever : Type 0
IndexNever = (m : Meaning) → lawful m ≡ true → (calls : List Call) (call : Call) → refusal m (lowered m new calls) call ≢ Some IndexTooLarge

-- `lower_mod_item` brings one outermost entry at most
abbrev pub OneItem : Type 0
OneItem = (m : Meaning) (before : Entries) (n : ℕ) → lawful m ≡ true → length (ids (appended m before (item n))) ≤ 1

abbrev pub NoRepeats : List Path → Type 0
NoRepeats [] = Unit {0}
NoRepeats (p ∷ later) = (has p later ≡ false) × NoRepeats later

-- each of some paths is one of others
abbrev pub EachOf : List Path → List Path → Type 0
EachOf [] others = Unit {0}
EachOf (p ∷ later) others = (has p others ≡ true) × EachOf later others

-- distinct paths: those that were recorded, each once
abbrev pub DistinctStands : Type 0
DistinctStands = (recorded : List Path) → NoRepeats (distinct [] recorded) × EachOf recorded (distinct [] recorded) × EachOf (distinct [] recorded) recorded

-- what is recorded later does not change the numbers of Module visibilities and paths
pub record NumbersKept (rs more : List Recorded) : Type 0 where
  pub new_modules : List Path
  pub modules : modules_in (rs ++ more) ≡ modules_in rs ++ new_modules
  pub new_paths : List Path
  pub paths : paths_in (rs ++ more) ≡ paths_in rs ++ new_paths

abbrev pub NumbersStay : Type 0
NumbersStay = (rs more : List Recorded) → NumbersKept rs more

-- the numbers of the items among siblings
abbrev pub item_numbers : List NodeRef → List ℕ
item_numbers [] = []
item_numbers (x ∷ later) = cond (is_item x.node.kind) (x.number ∷ item_numbers later) (item_numbers later)

-- entries that calls of `lower_mod_item` bring, one after another
abbrev pub one_by_one : Meaning → Entries → List ℕ → Entries
one_by_one m before [] = before
one_by_one m before (n ∷ later) = one_by_one m (followed before (appended m before (item n))) later

-- root lowering brings what `lower_mod_item` brings at each item of the root in turn
abbrev pub RootIsItems : Type 0
RootIsItems =
    (m : Meaning) (file : Node) (before : Entries) → lawful m ≡ true → node_at m 0 ≡ Some file →
    followed before (appended m before root) ≡ one_by_one m before (item_numbers (children m (record { number = 0; node = file })))

-- an entry is that of its node: record and attribute list are as the node is written
pub record Described (m : Meaning) (e : Entry) : Type 0 where
  pub node : Node
  pub there : node_at m e.ast_id ≡ Some node
  -- the ids of the items inside it
  pub inside : List ℕ
  pub as_written : record_of m (record { number = e.ast_id; node = node }) inside ≡ Some e.item
  pub with_attrs : e.attrs ≡ attributes_of m (record { number = e.ast_id; node = node })

abbrev pub EntriesStand : Type 0
EntriesStand = (m : Meaning) → lawful m ≡ true → (calls : List Call) → Each (Described m) (lowered m new calls).entries

-- who sees the constructor of a tuple struct: exactly those who see the struct and each of its fields, as written
abbrev pub SeenAsWritten : Meaning → NodeRef → Visibility → Constructor → Type 0
SeenAsWritten m struct v c =
    struct.node.mark ≡ 2 →
    (t : Tree) (home : ℕ) (means : Path → ℕ) → home < t.size → EachAtOrAbove t home means (v ∷ fields_of m struct) →
    (x : Place) → Same (Callable t home means x c) (AdmitsEach t home means x (v ∷ fields_of m struct))

-- the node of a struct's entry is a Struct with that visibility, and its constructor is seen so
pub record StructSeen (m : Meaning) (n : ℕ) (v : Visibility) (c : Constructor) : Type 0 where
  pub struct : Node
  pub there : node_at m n ≡ Some struct
  pub kind : struct.kind ≡ number_of StructNode
  pub own : v ≡ visibility_of m (record { number = n; node = struct })
  pub seen : SeenAsWritten m (record { number = n; node = struct }) v c

-- of every struct that a run's inventory has
abbrev pub ConstructorsHeld : Type 0
ConstructorsHeld =
    (m : Meaning) → lawful m ≡ true → (calls : List Call) → Each (λ e. (name : Name) (v : Visibility) (c : Constructor) → e.item ≡ Struct name v c → StructSeen m e.ast_id v c) (lowered m new calls).entries
