-- Runs of lowering calls: their answers, and their inventory.
use Rattle.std.specs.Prelude.{ℕ, Bool, true, false, cond, not, ◌&&◌, ◌||◌, List, [], ◌∷◌, ◌++◌, length, Some, None, Option, ◌==◌, nat_lt}
use Rattle.syntax.specs.Children.{children}
use Rattle.syntax.specs.Kinds.{is_item}
use Rattle.syntax.specs.Meaning.{Meaning, node_at}
use Rattle.syntax.specs.declared.node.Node.{Node}
use Rattle.syntax.specs.declared.refusal.Refusal.{Refusal}
use Rattle.syntax.specs.declared.refusal.Refusal.TheVariants.{NotAnItem, NotFirst, TableFull, IndexTooLarge}
use Rattle.syntax.specs.declared.walk.NodeRef.{NodeRef}
use Rattle.items.specs.Attributes.{AttrList, enabled, attributes_of}
use Rattle.rules.specs.Entries.{Entries, empty, ids, followed}
use Rattle.rules.specs.Inventory.{Counts, plus, no_ids, entries_from, node_tree, root_items}
use Rattle.rules.specs.Recorded.{Recorded, collected_in, recorded_from, fits}

-- root lowering, or `lower_mod_item` of a node
pub data Call : Type 0 where
  root : Call
  item : ℕ → Call

pub data Answer : Type 0 where
  refused : Refusal → Answer
  -- the number of top_level items
  items : ℕ → Answer
  -- the id of the item, or none if it is passed over
  id : Option ℕ → Answer

-- what accepted calls have made of a tree
pub record Lowered : Type 0 where
  -- whether there was one
  pub begun : Bool
  pub entries : Entries
  -- the attributes of the top level
  pub top : AttrList
  pub recorded : List Recorded

abbrev pub new : Lowered
new = record { begun = false; entries = empty; top = enabled []; recorded = [] }

abbrev attributes_in : Meaning → Option Node → AttrList
attributes_in m None = enabled []
attributes_in m (Some x) = attributes_of m (record { number = 0; node = x })

-- of the File node
abbrev pub top_attributes : Meaning → AttrList
top_attributes m = attributes_in m (node_at m 0)

-- the entries that a call appends, if it is accepted
abbrev pub appended : Meaning → Entries → Call → Entries
appended m before root = entries_from m (plus no_ids before) 1 (root_items m)
appended m before (item n) = entries_from m (plus no_ids before) n (node_tree m n)

-- the tree after an accepted call
abbrev pub after : Meaning → Lowered → Call → Lowered
after m t root =
    record { begun = true; entries = followed t.entries (appended m t.entries root); top = top_attributes m; recorded = t.recorded ++ (collected_in (top_attributes m) ++ recorded_from m 1 (root_items m)) }
after m t (item n) =
    record { begun = true; entries = followed t.entries (appended m t.entries (item n)); top = t.top; recorded = t.recorded ++ recorded_from m n (node_tree m n) }

abbrev item_among : ℕ → List NodeRef → Bool
item_among n [] = false
item_among n (x ∷ later) = (x.number == n && is_item x.node.kind) || item_among n later

abbrev child_at : Meaning → ℕ → Option Node → Bool
child_at m n None = false
child_at m n (Some x) = item_among n (children m (record { number = 0; node = x }))

-- n is an item child of the root
abbrev pub is_root_item : Meaning → ℕ → Bool
is_root_item m n = child_at m n (node_at m 0)

-- the causes of refusals, each by itself
abbrev pub not_an_item : Meaning → Call → Bool
not_an_item m root = false
not_an_item m (item n) = not (is_root_item m n)

abbrev pub not_first : Lowered → Call → Bool
not_first t root = t.begun
not_first t (item n) = false

-- the last of so many items has the index 2147483647 or a larger one
abbrev pub index_too_large : Counts → Bool
index_too_large n = nat_lt 2147483647 n.smalls || nat_lt 2147483647 n.bigs

abbrev pub table_full : Lowered → Bool
table_full t = not (fits (plus no_ids t.entries) t.recorded)

-- the first cause, if there is one
abbrev pub refusal : Meaning → Lowered → Call → Option Refusal
refusal m t call =
    cond (not_an_item m call) (Some NotAnItem)
    (cond (not_first t call) (Some NotFirst)
    (cond (index_too_large (plus no_ids (after m t call).entries)) (Some IndexTooLarge)
    (cond (table_full (after m t call)) (Some TableFull) None)))

abbrev first_id : List ℕ → Option ℕ
first_id [] = None
first_id (x ∷ later) = Some x

abbrev pub accepted : Meaning → Lowered → Call → Answer
accepted m t root = items (length (ids (after m t root).entries))
accepted m t (item n) = id (first_id (ids (appended m t.entries (item n))))

abbrev pub answer_if : Meaning → Lowered → Call → Option Refusal → Answer
answer_if m t call None = accepted m t call
answer_if m t call (Some e) = refused e

abbrev pub answer : Meaning → Lowered → Call → Answer
answer m t call = answer_if m t call (refusal m t call)

-- a refused call adds nothing
abbrev pub tree_if : Meaning → Lowered → Call → Option Refusal → Lowered
tree_if m t call None = after m t call
tree_if m t call (Some e) = t

abbrev pub next : Meaning → Lowered → Call → Lowered
next m t call = tree_if m t call (refusal m t call)

-- of calls one after another
abbrev pub answers : Meaning → Lowered → List Call → List Answer
answers m t [] = []
answers m t (call ∷ later) = answer m t call ∷ answers m (next m t call) later

abbrev pub lowered : Meaning → Lowered → List Call → Lowered
lowered m t [] = t
lowered m t (call ∷ later) = lowered m (next m t call) later

-- the inventory of a run, from the source, the calls and which of them were refused
abbrev pub inventory : Meaning → Entries → List Call → List Bool → Entries
inventory m so_far [] refusals = so_far
inventory m so_far (call ∷ later) [] = so_far
inventory m so_far (call ∷ later) (true ∷ refusals) = inventory m so_far later refusals
inventory m so_far (call ∷ later) (false ∷ refusals) = inventory m (followed so_far (appended m so_far call)) later refusals

abbrev pub is_refused : Answer → Bool
is_refused (refused e) = true
is_refused (items n) = false
is_refused (id n) = false
