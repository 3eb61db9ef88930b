-- Records by what they mean, and the entry of an item.
use Rattle.std.specs.Prelude.{ℕ, ◌+◌, ◌*◌, Bool, cond, ◌&&◌, ◌||◌, List, [], ◌∷◌, Some, None, Option, ◌==◌}
use Rattle.std.specs.Option.{option_map}
use Rattle.syntax.specs.Children.{child_of}
use Rattle.syntax.specs.Meaning.{Meaning}
use Rattle.syntax.specs.Table.{is}
use Rattle.syntax.specs.declared.kind.SyntaxKind.TheVariants as kind
use Rattle.syntax.specs.declared.node.Node.{Node}
use Rattle.syntax.specs.declared.walk.NodeRef.{NodeRef}
use Rattle.paths.specs.Names.{name_of}
use Rattle.paths.specs.Reading.{path_of}
use Rattle.paths.specs.Spelling.{Path}
use Rattle.paths.specs.declared.name.Name.{Name}
use Rattle.items.specs.Attributes.{AttrList}
use Rattle.items.specs.Written.{Visibility, visibility_of}
use Rattle.items.specs.declared.records.ExpandTo.{ExpandTo}
use Rattle.items.specs.declared.records.ExpandTo.TheVariants.{Statements, Items, Pattern, «Type» as Typed, Expr}
use Rattle.items.specs.declared.use_tree.ImportAlias.{ImportAlias}
use Rattle.rules.specs.Constructors.{Constructor, constructor_of}
use Rattle.rules.specs.Uses.{UseTrees, nothing, tree, alias_of, use_tree_of}

pub data ModKind : Type 0 where
  -- with the ids of the items inside
  inline : List ℕ → ModKind
  outline : ModKind

-- the Rust's records and their fields
pub data Record : Type 0 where
  Struct : Name → Visibility → Constructor → Record
  Union : Name → Visibility → Record
  Enum : Name → Visibility → Record
  Function : Name → Visibility → Record
  TypeAlias : Name → Visibility → Record
  Static : Name → Visibility → Record
  Const : Option Name → Visibility → Record
  Mod : Name → Visibility → ModKind → Record
  Trait : Name → Visibility → Record
  -- whether it is of a trait
  Impl : Bool → Record
  Use : Visibility → UseTrees → Record
  ExternCrate : Name → Option ImportAlias → Visibility → Record
  -- the context is 0
  MacroCall : Path → ExpandTo → Record
  MacroRules : Name → Record
  Macro2 : Name → Visibility → Record
  -- with the ids of the items inside
  ExternBlock : List ℕ → Record

pub data Size : Type 0 where
  small : Size
  big : Size

-- ExternCrate, Mod, Struct and Use records are big, all others small
abbrev pub size_of : Record → Size
size_of (Struct name v constructor') = big
size_of (Union name v) = small
size_of (Enum name v) = small
size_of (Function name v) = small
size_of (TypeAlias name v) = small
size_of (Static name v) = small
size_of (Const name v) = small
size_of (Mod name v items) = big
size_of (Trait name v) = small
size_of (Impl of_trait) = small
size_of (Use v trees) = big
size_of (ExternCrate name alias v) = big
size_of (MacroCall path expand) = small
size_of (MacroRules name) = small
size_of (Macro2 name v) = small
size_of (ExternBlock ids) = small

-- twice the index, or one more
abbrev pub id_of : Size → ℕ → ℕ
id_of small index = 2 * index
id_of big index = 2 * index + 1

-- the mark of a Module whose items are written out
abbrev pub mod_kind : ℕ → List ℕ → ModKind
mod_kind mark inside = cond (mark == 0) (inline inside) outline

abbrev pub expand_to : ℕ → ExpandTo
expand_to mark = cond (mark == 0) Statements (cond (mark == 1) Items (cond (mark == 2) Pattern (cond (mark == 3) Typed Expr)))

abbrev pub used : Visibility → UseTrees → Option Record
used v nothing = None
used v (tree x members later) = Some (Use v (tree x members later))

abbrev pub called : Meaning → ExpandTo → Option NodeRef → Option Record
called m expand None = None
called m expand (Some path) = option_map (λ p. MacroCall p expand) (path_of m path)

-- the record of an item, given the ids of the items inside it; none if it is passed over
abbrev pub record_of : Meaning → NodeRef → List ℕ → Option Record
record_of m x inside =
    let k = x.node.kind in
    let name = name_of x.node.text in
    let v = visibility_of m x in
    cond (is kind.Struct k) (option_map (λ n. Struct n v (constructor_of m x)) name)
    (cond (is kind.Union k) (option_map (λ n. Union n v) name)
    (cond (is kind.Enum k) (option_map (λ n. Enum n v) name)
    (cond (is kind.Fn k) (option_map (λ n. Function n v) name)
    (cond (is kind.TypeAlias k) (option_map (λ n. TypeAlias n v) name)
    (cond (is kind.Static k) (option_map (λ n. Static n v) name)
    (cond (is kind.Const k) (Some (Const name v))
    (cond (is kind.Module k) (option_map (λ n. Mod n v (mod_kind x.node.mark inside)) name)
    (cond (is kind.Trait k) (option_map (λ n. Trait n v) name)
    (cond (is kind.Impl k) (Some (Impl (x.node.mark == 1)))
    (cond (is kind.Use k) (used v (use_tree_of m x))
    (cond (is kind.ExternCrate k) (option_map (λ n. ExternCrate n (alias_of m x) v) name)
    (cond (is kind.MacroCall k) (called m (expand_to x.node.mark) (child_of kind.Path m x))
    (cond (is kind.MacroRules k) (option_map MacroRules name)
    (cond (is kind.MacroDef k) (option_map (λ n. Macro2 n v) name)
    (cond (is kind.ExternBlock k) (Some (ExternBlock inside)) None)))))))))))))))

-- inline modules and extern blocks have items inside them
abbrev pub has_items : Node → Bool
has_items x = (is kind.Module x.kind && x.mark == 0) || is kind.ExternBlock x.kind

-- an item that is not passed over; its AST id is its node number
pub record Entry : Type 0 where
  pub id : ℕ
  pub ast_id : ℕ
  pub item : Record
  pub attrs : AttrList

-- entries in order: none, or one with those of the items inside it, and then those after it
pub data Entries : Type 0 where
  empty : Entries
  entry : Entry → Entries → Entries → Entries

-- the ids of the outermost
abbrev pub ids : Entries → List ℕ
ids empty = []
ids (entry e inside later) = e.id ∷ ids later

-- one list of entries after another
abbrev pub followed : Entries → Entries → Entries
followed empty more = more
followed (entry e inside later) more = entry e inside (followed later more)
