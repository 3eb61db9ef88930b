-- What it is for a tree that is read to hold an inventory.
use Rattle.std.specs.Prelude.{◌≡◌, ℕ, Bool, false, cond, ◌||◌, List, [], ◌∷◌, Some, None, Option, ◌==◌}
use Rattle.std.specs.Option.{option_map}
use Rattle.syntax.specs.Meaning.{Meaning}
use Rattle.items.specs.Attributes.{AttrList, enabled, disabled}
use Rattle.rules.specs.Entries.{Record, Entry, Entries, empty, entry, ids}
use Rattle.rules.specs.Runs.{Call, new, lowered}

-- what an id answers: its node and its record
pub record Indexed : Type 0 where
  pub ast_id : ℕ
  pub item : Record

abbrev pub indexed : Entry → Indexed
indexed e = record { ast_id = e.ast_id; item = e.item }

-- only an enabled empty list is not stored
abbrev pub stored : AttrList → Option AttrList
stored (enabled []) = None
stored (enabled (x ∷ xs)) = Some (enabled (x ∷ xs))
stored (disabled text xs) = Some (disabled text xs)

-- so it is of each entry, outermost or nested
abbrev pub Each : (Entry → Type 0) → Entries → Type 0
Each P empty = Unit {0}
Each P (entry e inside later) = P e × Each P inside × Each P later

-- the id is that of an entry, outermost or nested
abbrev pub is_id : ℕ → Entries → Bool
is_id n empty = false
is_id n (entry e inside later) = e.id == n || (is_id n inside || is_id n later)

-- owns the attributes of the top level
abbrev pub top_owner : ℕ
top_owner = 4294967295

-- the answers of the reading calls, where none is a refusal with 8: the top level, `index` and `attrs`
pub record Holds (top : List ℕ) (index : ℕ → Option Indexed) (attrs : ℕ → Option (Option AttrList)) (es : Entries) (file : AttrList) : Type 0 where
  pub top_level : top ≡ ids es
  pub records : Each (λ e. index e.id ≡ Some (indexed e)) es
  pub no_record : (n : ℕ) → is_id n es ≡ false → index n ≡ None
  pub lists : Each (λ e. attrs e.id ≡ Some (stored e.attrs)) es
  pub file_list : attrs top_owner ≡ Some (stored file)
  pub no_list : (n : ℕ) → is_id n es ≡ false → (n == top_owner) ≡ false → attrs n ≡ None

-- the entry of an id
abbrev pub or_else : Option Entry → Option Entry → Option Entry
or_else None other = other
or_else (Some e) other = Some e

abbrev pub find : ℕ → Entries → Option Entry
find n empty = None
find n (entry e inside later) = cond (e.id == n) (Some e) (or_else (find n inside) (find n later))

-- what `index` and `attrs` answer from an inventory
abbrev pub index_in : Entries → ℕ → Option Indexed
index_in es n = option_map indexed (find n es)

abbrev pub list_in : Option Entry → Option (Option AttrList)
list_in o = option_map (λ (e : Entry). stored e.attrs) o

abbrev pub attrs_in : Entries → AttrList → ℕ → Option (Option AttrList)
attrs_in es file n = cond (n == top_owner) (Some (stored file)) (list_in (find n es))

-- each run's inventory is held by these answers
abbrev pub HoldingStands : Type 0
HoldingStands =
    (m : Meaning) (calls : List Call) →
    Holds (ids (lowered m new calls).entries) (index_in (lowered m new calls).entries) (attrs_in (lowered m new calls).entries (lowered m new calls).top) (lowered m new calls).entries (lowered m new calls).top

-- and by no others
abbrev pub HoldingOnce : Type 0
HoldingOnce =
    (top top' : List ℕ) (index index' : ℕ → Option Indexed) (attrs attrs' : ℕ → Option (Option AttrList)) (es : Entries) (file : AttrList) →
    Holds top index attrs es file → Holds top' index' attrs' es file →
    (top ≡ top') × ((n : ℕ) → index n ≡ index' n) × ((n : ℕ) → attrs n ≡ attrs' n)
