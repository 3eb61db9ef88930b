-- The pieces of a printed text, item by item.
use Rattle.std.specs.Prelude.{ℕ, zero, suc, List, [], ◌∷◌, ◌++◌, replicate, Some, None, codes, decimal, Option}
use Rattle.paths.specs.Spelling.{Path}
use Rattle.paths.specs.declared.mod_path.PathKind.{PathKind}
use Rattle.paths.specs.declared.mod_path.PathKind.TheVariants.{Plain, Super, Crate, Abs, DollarCrate}
use Rattle.paths.specs.declared.name.Name.{Name}
use Rattle.paths.specs.declared.name.Name.TheVariants.{Text, Missing}
pub use Rattle.items.specs.Marks.{expand_word}
use Rattle.items.specs.Attributes.{Attribute, AttrList, enabled, disabled}
use Rattle.items.specs.Written.{Visibility, everywhere, in_crate, in_self, in_module}
use Rattle.items.specs.declared.attrs.AttrInput.{AttrInput}
use Rattle.items.specs.declared.attrs.AttrInput.TheVariants.{Literal, TokenTree}
use Rattle.items.specs.declared.use_tree.ImportAlias.{ImportAlias}
use Rattle.items.specs.declared.use_tree.ImportAlias.TheVariants.{Underscore, Alias}
use Rattle.rules.specs.Entries.{ModKind, inline, outline, Record, Struct, Union, Enum, Function, TypeAlias, Static, Const, Mod, Trait, Impl, Use, ExternCrate, MacroCall, MacroRules, Macro2, ExternBlock, Entry, Entries, empty, entry}
use Rattle.rules.specs.Uses.{UseNode, single, glob, group, UseTrees, nothing, tree}

pub data Piece : Type 0 where
  bytes : List ℕ → Piece
  -- the text of that number
  text : ℕ → Piece
  blank_line : Piece
  -- no newlines at the end
  trim : Piece
  -- the level rises or falls by one
  deeper : Piece
  back : Piece

-- texts with a separator between them
abbrev pub joined_by : List Piece → List (List Piece) → List Piece
joined_by between [] = []
joined_by between (x ∷ []) = x
joined_by between (x ∷ y ∷ later) = x ++ (between ++ joined_by between (y ∷ later))

abbrev pub name_pieces : Name → List Piece
name_pieces (Text number) = text number ∷ []
name_pieces Missing = bytes (codes "[missing name]") ∷ []

abbrev pub name_parts : List Name → List (List Piece)
name_parts [] = []
name_parts (n ∷ later) = name_pieces n ∷ name_parts later

-- Plain has no part, Abs an empty one
abbrev pub kind_parts : PathKind → List (List Piece)
kind_parts Plain = []
kind_parts Abs = [] ∷ []
kind_parts (Super zero) = (bytes (codes "self") ∷ []) ∷ []
kind_parts (Super (suc n)) = replicate (suc n) (bytes (codes "super") ∷ [])
kind_parts Crate = (bytes (codes "crate") ∷ []) ∷ []
kind_parts DollarCrate = (bytes (codes "$crate") ∷ []) ∷ []

-- the part for its kind, then its names
abbrev pub path_pieces : Path → List Piece
path_pieces p = joined_by (bytes (codes "::") ∷ []) (kind_parts p.kind ++ name_parts p.names)

abbrev pub alias_pieces : ImportAlias → List Piece
alias_pieces Underscore = bytes (codes "_") ∷ []
alias_pieces (Alias n) = name_pieces n

-- ` as alias`, where there is one
abbrev pub rename_pieces : Option ImportAlias → List Piece
rename_pieces None = []
rename_pieces (Some alias) = bytes (codes " as ") ∷ alias_pieces alias

abbrev pub visibility_pieces : Visibility → List Piece
visibility_pieces everywhere = bytes (codes "pub ") ∷ []
visibility_pieces in_crate = bytes (codes "pub(crate) ") ∷ []
visibility_pieces (in_self e) = bytes (codes "pub(self) ") ∷ []
visibility_pieces (in_module p) = bytes (codes "pub(in ") ∷ (path_pieces p ++ (bytes (codes ") ") ∷ []))

-- `path::`, where there is a path
abbrev pub prefix_pieces : Option Path → List Piece
prefix_pieces None = []
prefix_pieces (Some p) = path_pieces p ++ (bytes (codes "::") ∷ [])

abbrev pub use_pieces : UseNode → List Piece → List Piece
use_pieces (single p alias) members = path_pieces p ++ rename_pieces alias
use_pieces (glob p) members = prefix_pieces p ++ (bytes (codes "*") ∷ [])
use_pieces (group p) members = prefix_pieces p ++ (bytes (codes "{") ∷ (members ++ (bytes (codes "}") ∷ [])))

-- of each use tree, the members joined by a comma
abbrev pub use_parts : UseTrees → List (List Piece)
use_parts nothing = []
use_parts (tree x members later) = use_pieces x (joined_by (bytes (codes ", ") ∷ []) (use_parts members)) ∷ use_parts later

abbrev pub tree_pieces : UseTrees → List Piece
tree_pieces trees = joined_by (bytes (codes ", ") ∷ []) (use_parts trees)

abbrev pub input_pieces : Option AttrInput → List Piece
input_pieces None = []
input_pieces (Some (Literal number)) = text number ∷ []
input_pieces (Some (TokenTree number)) = text number ∷ []

-- after `#[`, or `#![` at the top level
abbrev pub attribute_pieces : List ℕ → Attribute → List Piece
attribute_pieces opening a = bytes opening ∷ (path_pieces a.path ++ (input_pieces a.input ++ (bytes (codes "]\n") ∷ [])))

abbrev pub attributes_pieces : List ℕ → List Attribute → List Piece
attributes_pieces opening [] = []
attributes_pieces opening (a ∷ later) = attribute_pieces opening a ++ attributes_pieces opening later

abbrev pub condition_pieces : Option ℕ → List Piece
condition_pieces None = []
condition_pieces (Some number) = text number ∷ []

-- attributes one to a line, and then a false condition
abbrev pub list_pieces : List ℕ → AttrList → List Piece
list_pieces opening (enabled xs) = attributes_pieces opening xs
list_pieces opening (disabled condition xs) =
    attributes_pieces opening xs ++ (bytes opening ∷ bytes (codes "cfg(") ∷ (condition_pieces condition ++ (bytes (codes ")]\n") ∷ [])))

-- items in braces, one level deeper
abbrev pub braces : List Piece → List Piece
braces inside = bytes (codes "{") ∷ deeper ∷ bytes (codes "\n") ∷ (inside ++ (back ∷ trim ∷ bytes (codes "}\n") ∷ []))

-- visibility, word, name and what follows
abbrev pub named : Visibility → List ℕ → Name → List Piece → List Piece
named v word n ending = visibility_pieces v ++ (bytes word ∷ (name_pieces n ++ ending))

abbrev pub const_name : Option Name → List Piece
const_name None = bytes (codes "_") ∷ []
const_name (Some n) = name_pieces n

abbrev pub mod_pieces : ModKind → List Piece → List Piece
mod_pieces outline inside = bytes (codes ";\n") ∷ []
mod_pieces (inline ids) inside = bytes (codes " ") ∷ braces inside

-- the text of a record, given that of the items inside it
abbrev pub record_pieces : Record → List Piece → List Piece
record_pieces (Use v trees) inside = visibility_pieces v ++ (bytes (codes "use ") ∷ (tree_pieces trees ++ (bytes (codes ";\n") ∷ [])))
record_pieces (ExternCrate n alias v) inside = named v (codes "extern crate ") n (rename_pieces alias ++ (bytes (codes ";\n") ∷ []))
record_pieces (ExternBlock ids) inside = bytes (codes "extern ") ∷ braces inside
record_pieces (Function n v) inside = named v (codes "fn ") n (bytes (codes ";\n") ∷ [])
record_pieces (Struct n v c) inside = named v (codes "struct ") n (bytes (codes " { ... }\n") ∷ [])
record_pieces (Union n v) inside = named v (codes "union ") n (bytes (codes " { ... }\n") ∷ [])
record_pieces (Enum n v) inside = named v (codes "enum ") n (bytes (codes " { ... }\n") ∷ [])
record_pieces (Const n v) inside = visibility_pieces v ++ (bytes (codes "const ") ∷ (const_name n ++ (bytes (codes " = _;\n") ∷ [])))
record_pieces (Static n v) inside = named v (codes "static ") n (bytes (codes " = _;\n") ∷ [])
record_pieces (Trait n v) inside = named v (codes "trait ") n (bytes (codes " { ... }") ∷ [])
record_pieces (Impl of_trait) inside = bytes (codes "impl { ... }") ∷ []
record_pieces (TypeAlias n v) inside = named v (codes "type ") n (bytes (codes ";\n") ∷ [])
record_pieces (Mod n v items) inside = named v (codes "mod ") n (mod_pieces items inside)
record_pieces (MacroCall p expand) inside = path_pieces p ++ (bytes (codes "!(...);\n") ∷ [])
record_pieces (MacroRules n) inside = bytes (codes "macro_rules! ") ∷ (name_pieces n ++ (bytes (codes " { ... }\n") ∷ []))
record_pieces (Macro2 n v) inside = named v (codes "macro ") n (bytes (codes " { ... }\n") ∷ [])

-- what a macro call's first line adds
abbrev pub call_pieces : Record → List Piece
call_pieces (Use v trees) = []
call_pieces (ExternCrate n alias v) = []
call_pieces (ExternBlock ids) = []
call_pieces (Function n v) = []
call_pieces (Struct n v c) = []
call_pieces (Union n v) = []
call_pieces (Enum n v) = []
call_pieces (Const n v) = []
call_pieces (Static n v) = []
call_pieces (Trait n v) = []
call_pieces (Impl of_trait) = []
call_pieces (TypeAlias n v) = []
call_pieces (Mod n v items) = []
call_pieces (MacroCall p expand) = bytes (codes ", SyntaxContextId: 0, ExpandTo: ") ∷ bytes (expand_word expand) ∷ []
call_pieces (MacroRules n) = []
call_pieces (Macro2 n v) = []

-- the line `// AstId: N`
abbrev pub id_pieces : Entry → List Piece
id_pieces e = bytes (codes "// AstId: ") ∷ bytes (decimal e.ast_id) ∷ (call_pieces e.item ++ (bytes (codes "\n") ∷ []))

-- attributes, the line of the id, the item's own text, and a blank line
abbrev pub entry_pieces : Entry → List Piece → List Piece
entry_pieces e inside = list_pieces (codes "#[") e.attrs ++ (id_pieces e ++ (record_pieces e.item inside ++ (blank_line ∷ [])))

abbrev pub item_pieces : Entries → List Piece
item_pieces empty = []
item_pieces (entry e inside later) = entry_pieces e (item_pieces inside) ++ item_pieces later

-- the attributes of the top level, a blank line, and the items
abbrev pub pieces : AttrList → Entries → List Piece
pieces top es = list_pieces (codes "#![") top ++ (blank_line ∷ item_pieces es)
