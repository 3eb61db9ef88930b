-- Worked examples: sources of one item, and what the rules make of them.
use Rattle.std.specs.Prelude.{◌≡◌, ℕ, zero, suc, ◌+◌, ◌*◌, true, false, List, [], ◌∷◌, Some, None, Ok, Err, codes, Option}
use Rattle.syntax.specs.Kinds.{number_of}
use Rattle.syntax.specs.Law.{lawful}
use Rattle.syntax.specs.Meaning.{Meaning}
use Rattle.syntax.specs.declared.kind.SyntaxKind.{SyntaxKind}
use Rattle.syntax.specs.declared.kind.SyntaxKind.TheVariants as kind
use Rattle.syntax.specs.declared.node.Node.{Node}
use Rattle.syntax.specs.declared.refusal.Refusal.TheVariants.{NotAnItem, NotFirst, TableFull, TooShort, MissingText}
use Rattle.syntax.specs.declared.refusal.Needed.TheVariants.{Bytes}
use Rattle.paths.specs.Spelling.{Path}
use Rattle.paths.specs.declared.join.ImportKind.{ImportKind}
use Rattle.paths.specs.declared.join.ImportKind.TheVariants.{Single, TypeOnly, Glob}
use Rattle.paths.specs.declared.mod_path.PathKind.{PathKind}
use Rattle.paths.specs.declared.mod_path.PathKind.TheVariants.{Plain, Super, Abs}
use Rattle.paths.specs.declared.name.Name.{Name}
use Rattle.paths.specs.declared.name.Name.TheVariants.{Text}
use Rattle.items.specs.Attributes.{enabled}
use Rattle.items.specs.Written.{everywhere, in_self, in_module}
use Rattle.items.specs.declared.use_tree.ImportAlias.{ImportAlias}
use Rattle.items.specs.declared.use_tree.ImportAlias.TheVariants.{Alias}
use Rattle.items.specs.declared.visibility.VisibilityExplicitness.TheVariants.{Implicit}
use Rattle.rules.specs.Constructors.{Constructor, none, one, all}
use Rattle.rules.specs.Entries.{Record, Struct, Union, Enum, Function, TypeAlias, Static, Const, Mod, Trait, Impl, Use, ExternCrate, MacroCall, MacroRules, Macro2, ExternBlock, inline, Entries, empty, entry}
use Rattle.rules.specs.Imports.{Import, imports}
use Rattle.rules.specs.Inventory.{entries_from, no_ids, root_items}
use Rattle.rules.specs.Printed.{printed, printing}
use Rattle.rules.specs.Recorded.{modules_in}
use Rattle.rules.specs.Runs as runs
use Rattle.rules.specs.Runs.{Call, root, item, refused, items, id, new, answers, lowered}

-- kind, end, text and mark; the byte offsets are left at 0
abbrev node_of : SyntaxKind → ℕ → ℕ → ℕ → Node
node_of k end text mark = record { kind = number_of k; end = end; text = text; mark = mark; from = 0; to = 0 }

abbrev file : ℕ → Node
file end = node_of kind.File end 0 0

abbrev use' : ℕ → Node
use' end = node_of kind.Use end 0 0

abbrev single : ℕ → Node
single end = node_of kind.UseTree end 0 0

abbrev glob : ℕ → Node
glob end = node_of kind.UseTree end 0 1

abbrev group : ℕ → Node
group end = node_of kind.UseTree end 0 2

abbrev bare_glob : ℕ → Node
bare_glob end = node_of kind.UseTree end 0 5

abbrev bare_group : ℕ → Node
bare_group end = node_of kind.UseTree end 0 6

abbrev path : ℕ → Node
path end = node_of kind.Path end 0 0

abbrev name : ℕ → ℕ → Node
name end text = node_of kind.Segment end text 0

abbrev self' : ℕ → Node
self' end = node_of kind.Segment end 0 1

abbrev super' : ℕ → Node
super' end = node_of kind.Segment end 0 2

abbrev crate' : ℕ → Node
crate' end = node_of kind.Segment end 0 3

abbrev rename : ℕ → ℕ → Node
rename end text = node_of kind.Rename end text 0

abbrev record_struct : ℕ → ℕ → Node
record_struct end text = node_of kind.Struct end text 0

abbrev unit_struct : ℕ → ℕ → Node
unit_struct end text = node_of kind.Struct end text 1

abbrev tuple_struct : ℕ → ℕ → Node
tuple_struct end text = node_of kind.Struct end text 2

abbrev field : ℕ → Node
field end = node_of kind.Field end 0 0

abbrev pub' : ℕ → Node
pub' end = node_of kind.Vis end 0 0

abbrev pub_crate : ℕ → Node
pub_crate end = node_of kind.Vis end 0 1

abbrev pub_super : ℕ → Node
pub_super end = node_of kind.Vis end 0 2

abbrev pub_in : ℕ → Node
pub_in end = node_of kind.Vis end 0 4

abbrev names : List ℕ → List Name
names [] = []
names (text ∷ later) = Text text ∷ names later

abbrev spelt : PathKind → List ℕ → Path
spelt k texts = record { kind = k; names = names texts }

abbrev import' : Path → ImportKind → Option ImportAlias → ℕ → Import
import' p k alias place = record { target = record { path = p; kind = k }; alias = alias; place = place }

-- the imports of a use, or the constructor of a struct
pub data Answer : Type 0 where
  imported : List Import → Answer
  seen_by : Constructor → Answer
  neither : Answer

abbrev answer_to : Record → Answer
answer_to (Use v trees) = imported (imports trees)
answer_to (Struct n v c) = seen_by c
answer_to (Union n v) = neither
answer_to (Enum n v) = neither
answer_to (Function n v) = neither
answer_to (TypeAlias n v) = neither
answer_to (Static n v) = neither
answer_to (Const n v) = neither
answer_to (Mod n v inside) = neither
answer_to (Trait n v) = neither
answer_to (Impl of_trait) = neither
answer_to (ExternCrate n alias v) = neither
answer_to (MacroCall p expand) = neither
answer_to (MacroRules n) = neither
answer_to (Macro2 n v) = neither
answer_to (ExternBlock ids) = neither

abbrev of_first : Entries → Answer
of_first empty = neither
of_first (entry e inside later) = answer_to e.item

-- of the first item of a source
abbrev pub answered : Meaning → Answer
answered m = of_first (entries_from m no_ids 1 (root_items m))

pub record Row : Type 0 where
  pub source : Meaning
  pub answer : Answer

abbrev row : List Node → List (List ℕ) → Answer → Row
row nodes texts answer = record { source = record { nodes = nodes; texts = texts }; answer = answer }

-- each source keeps the law, and has the answer beside it
abbrev pub Stand : List Row → Type 0
Stand [] = Unit {0}
Stand (r ∷ later) = (lawful r.source ≡ true) × (answered r.source ≡ r.answer) × Stand later

-- the examples of the rules
abbrev pub eight : List Row
eight =
    -- use a::{b::{c}, d};
    row (file 14 ∷ use' 14 ∷ group 14 ∷ path 5 ∷ name 5 1 ∷ group 11 ∷ path 8 ∷ name 8 2 ∷ single 11 ∷ path 11 ∷ name 11 3 ∷ single 14 ∷ path 14 ∷ name 14 4 ∷ [])
    (codes "a" ∷ codes "b" ∷ codes "c" ∷ codes "d" ∷ [])
    (imported (import' (spelt Plain (1 ∷ 2 ∷ 3 ∷ [])) Single None 2 ∷ import' (spelt Plain (1 ∷ 4 ∷ [])) Single None 3 ∷ []))
    ∷
    -- use a::{self::{b, c}, d};
    row (file 17 ∷ use' 17 ∷ group 17 ∷ path 5 ∷ name 5 1 ∷ group 14 ∷ path 8 ∷ self' 8 ∷ single 11 ∷ path 11 ∷ name 11 2 ∷ single 14 ∷ path 14 ∷ name 14 3 ∷ single 17 ∷ path 17 ∷ name 17 4 ∷ [])
    (codes "a" ∷ codes "b" ∷ codes "c" ∷ codes "d" ∷ [])
    (imported (import' (spelt Plain (1 ∷ 4 ∷ [])) Single None 4 ∷ []))
    ∷
    -- use a::{self, *};
    row (file 9 ∷ use' 9 ∷ group 9 ∷ path 5 ∷ name 5 1 ∷ single 8 ∷ path 8 ∷ self' 8 ∷ glob 9 ∷ [])
    (codes "a" ∷ [])
    (imported (import' (spelt Plain (1 ∷ [])) TypeOnly None 1 ∷ import' (spelt Plain (1 ∷ [])) Glob None 2 ∷ []))
    ∷
    -- use ::{a, b as c};
    row (file 10 ∷ use' 10 ∷ bare_group 10 ∷ single 6 ∷ path 6 ∷ name 6 1 ∷ single 10 ∷ path 9 ∷ name 9 2 ∷ rename 10 3 ∷ [])
    (codes "a" ∷ codes "b" ∷ codes "c" ∷ [])
    (imported (import' (spelt Abs (1 ∷ [])) Single None 1 ∷ import' (spelt Abs (2 ∷ [])) Single (Some (Alias (Text 3))) 2 ∷ []))
    ∷
    -- use a::{self::*};
    row (file 8 ∷ use' 8 ∷ group 8 ∷ path 5 ∷ name 5 1 ∷ glob 8 ∷ path 8 ∷ self' 8 ∷ [])
    (codes "a" ∷ [])
    (imported ([]))
    ∷
    -- use a::{* as b, c};
    row (file 10 ∷ use' 10 ∷ group 10 ∷ path 5 ∷ name 5 1 ∷ glob 7 ∷ rename 7 2 ∷ single 10 ∷ path 10 ∷ name 10 3 ∷ [])
    (codes "a" ∷ codes "b" ∷ codes "c" ∷ [])
    (imported (import' (spelt Plain (1 ∷ 3 ∷ [])) Single None 1 ∷ []))
    ∷
    -- pub struct S(pub(in p) A, pub B, pub(in q) C);
    row (file 13 ∷ tuple_struct 13 1 ∷ pub' 3 ∷ field 7 ∷ pub_in 7 ∷ path 7 ∷ name 7 2 ∷ field 9 ∷ pub' 9 ∷ field 13 ∷ pub_in 13 ∷ path 13 ∷ name 13 3 ∷ [])
    (codes "S" ∷ codes "p" ∷ codes "q" ∷ [])
    (seen_by (all ((spelt Plain (2 ∷ [])) ∷ (spelt Plain (3 ∷ [])) ∷ [])))
    ∷
    -- pub struct S(pub(crate) A, B);
    row (file 6 ∷ tuple_struct 6 1 ∷ pub' 3 ∷ field 5 ∷ pub_crate 5 ∷ field 6 ∷ [])
    (codes "S" ∷ [])
    (seen_by (one (in_self Implicit)))
    ∷ []

-- the further examples of the pages on imports and visibilities
abbrev pub further : List Row
further =
    -- use a::{b::self, c};
    row (file 12 ∷ use' 12 ∷ group 12 ∷ path 5 ∷ name 5 1 ∷ single 9 ∷ path 9 ∷ name 8 2 ∷ self' 9 ∷ single 12 ∷ path 12 ∷ name 12 3 ∷ [])
    (codes "a" ∷ codes "b" ∷ codes "c" ∷ [])
    (imported (import' (spelt Plain (1 ∷ 3 ∷ [])) Single None 1 ∷ []))
    ∷
    -- use a::{crate::b, c};
    row (file 12 ∷ use' 12 ∷ group 12 ∷ path 5 ∷ name 5 1 ∷ single 9 ∷ path 9 ∷ crate' 8 ∷ name 9 2 ∷ single 12 ∷ path 12 ∷ name 12 3 ∷ [])
    (codes "a" ∷ codes "b" ∷ codes "c" ∷ [])
    (imported (import' (spelt Plain (1 ∷ 3 ∷ [])) Single None 2 ∷ []))
    ∷
    -- use a::{{b}};
    row (file 9 ∷ use' 9 ∷ group 9 ∷ path 5 ∷ name 5 1 ∷ group 9 ∷ single 9 ∷ path 9 ∷ name 9 2 ∷ [])
    (codes "a" ∷ codes "b" ∷ [])
    (imported (import' (spelt Plain (1 ∷ 2 ∷ [])) Single None 2 ∷ []))
    ∷
    -- use a::{self as b};
    row (file 9 ∷ use' 9 ∷ group 9 ∷ path 5 ∷ name 5 1 ∷ single 9 ∷ path 8 ∷ self' 8 ∷ rename 9 2 ∷ [])
    (codes "a" ∷ codes "b" ∷ [])
    (imported (import' (spelt Plain (1 ∷ [])) TypeOnly (Some (Alias (Text 2))) 1 ∷ []))
    ∷
    -- use super::{super::x};
    row (file 9 ∷ use' 9 ∷ group 9 ∷ path 5 ∷ super' 5 ∷ single 9 ∷ path 9 ∷ super' 8 ∷ name 9 1 ∷ [])
    (codes "x" ∷ [])
    (imported (import' (spelt (Super 2) (1 ∷ [])) Single None 1 ∷ []))
    ∷
    -- use {self};
    row (file 6 ∷ use' 6 ∷ group 6 ∷ single 6 ∷ path 6 ∷ self' 6 ∷ [])
    ([])
    (imported (import' (spelt (Super 0) ([])) Single None 1 ∷ []))
    ∷
    -- use ::{self};
    row (file 6 ∷ use' 6 ∷ bare_group 6 ∷ single 6 ∷ path 6 ∷ self' 6 ∷ [])
    ([])
    (imported ([]))
    ∷
    -- use *;
    row (file 3 ∷ use' 3 ∷ glob 3 ∷ [])
    ([])
    (imported ([]))
    ∷
    -- use ::*;
    row (file 3 ∷ use' 3 ∷ bare_glob 3 ∷ [])
    ([])
    (imported (import' (spelt Abs ([])) Glob None 0 ∷ []))
    ∷
    -- pub struct S();
    row (file 3 ∷ tuple_struct 3 1 ∷ pub' 3 ∷ [])
    (codes "S" ∷ [])
    (seen_by (one everywhere))
    ∷
    -- struct S(pub A);
    row (file 4 ∷ tuple_struct 4 1 ∷ field 4 ∷ pub' 4 ∷ [])
    (codes "S" ∷ [])
    (seen_by (one (in_self Implicit)))
    ∷
    -- pub(crate) struct S(pub A, pub(in a) B);
    row (file 9 ∷ tuple_struct 9 1 ∷ pub_crate 3 ∷ field 5 ∷ pub' 5 ∷ field 9 ∷ pub_in 9 ∷ path 9 ∷ name 9 2 ∷ [])
    (codes "S" ∷ codes "a" ∷ [])
    (seen_by (one (in_module (spelt Plain (2 ∷ [])))))
    ∷
    -- pub(in a) struct S(pub(in b) A, pub(in a) B);
    row (file 13 ∷ tuple_struct 13 2 ∷ pub_in 5 ∷ path 5 ∷ name 5 1 ∷ field 9 ∷ pub_in 9 ∷ path 9 ∷ name 9 3 ∷ field 13 ∷ pub_in 13 ∷ path 13 ∷ name 13 1 ∷ [])
    (codes "a" ∷ codes "S" ∷ codes "b" ∷ [])
    (seen_by (all ((spelt Plain (1 ∷ [])) ∷ (spelt Plain (3 ∷ [])) ∷ [])))
    ∷
    -- pub(super) struct S(pub(in super) A);
    row (file 7 ∷ tuple_struct 7 1 ∷ pub_super 3 ∷ field 7 ∷ pub_in 7 ∷ path 7 ∷ super' 7 ∷ [])
    (codes "S" ∷ [])
    (seen_by (one (in_module (spelt (Super 1) ([])))))
    ∷
    -- pub struct S(pub(in a) A, pub(in b) B, C);
    row (file 12 ∷ tuple_struct 12 1 ∷ pub' 3 ∷ field 7 ∷ pub_in 7 ∷ path 7 ∷ name 7 2 ∷ field 11 ∷ pub_in 11 ∷ path 11 ∷ name 11 3 ∷ field 12 ∷ [])
    (codes "S" ∷ codes "a" ∷ codes "b" ∷ [])
    (seen_by (one (in_self Implicit)))
    ∷
    -- pub(in a) struct S;
    row (file 5 ∷ unit_struct 5 2 ∷ pub_in 5 ∷ path 5 ∷ name 5 1 ∷ [])
    (codes "a" ∷ codes "S" ∷ [])
    (seen_by (one (in_module (spelt Plain (1 ∷ [])))))
    ∷
    -- pub struct S { .. }
    row (file 3 ∷ record_struct 3 1 ∷ pub' 3 ∷ [])
    (codes "S" ∷ [])
    (seen_by none)
    ∷ []

-- mod m { fn f() {} impl S {} }
abbrev pub module_source : Meaning
module_source =
    record { nodes = file 4 ∷ node_of kind.Module 4 1 0 ∷ node_of kind.Fn 3 2 0 ∷ node_of kind.Impl 4 0 0 ∷ []; texts = codes "m" ∷ codes "f" ∷ [] }

-- `f` and the impl have the ids 0 and 2, and the module, after them, the id 1
abbrev pub ModuleStands : Type 0
ModuleStands =
    (lawful module_source ≡ true)
    × (entries_from module_source no_ids 1 (root_items module_source)
    ≡ entry (record { id = 1; ast_id = 1; item = Mod (Text 1) (in_self Implicit) (inline (0 ∷ 2 ∷ [])); attrs = enabled [] })
    (entry (record { id = 0; ast_id = 2; item = Function (Text 2) (in_self Implicit); attrs = enabled [] }) empty
    (entry (record { id = 2; ast_id = 3; item = Impl false; attrs = enabled [] }) empty empty))
    empty)

-- a run on a source, and its answers
pub record Run : Type 0 where
  pub source : Meaning
  pub calls : List Call
  pub answers : List runs.Answer

abbrev run : Meaning → List Call → List runs.Answer → Run
run source calls answers = record { source = source; calls = calls; answers = answers }

abbrev pub RunsStand : List Run → Type 0
RunsStand [] = Unit {0}
RunsStand (r ∷ later) = (lawful r.source ≡ true) × (answers r.source new r.calls ≡ r.answers) × RunsStand later

-- pub(in p) struct S;, where the name is missing: the visibility is recorded
abbrev pub nameless_struct : Meaning
nameless_struct = record { nodes = file 5 ∷ unit_struct 5 0 ∷ pub_in 5 ∷ path 5 ∷ name 5 1 ∷ []; texts = codes "p" ∷ [] }

-- so many nameless unions from number i on, each with a `pub(in ..)` of its own
abbrev unions : ℕ → ℕ → ℕ → List Node
unions zero i text = []
unions (suc count) i text = node_of kind.Union (i + 4) 0 0 ∷ pub_in (i + 4) ∷ path (i + 4) ∷ name (i + 4) text ∷ unions count (i + 4) (text + 1)

abbrev texts : ℕ → ℕ → List (List ℕ)
texts zero byte = []
texts (suc count) byte = (byte ∷ []) ∷ texts count (byte + 1)

abbrev pub nameless_unions : ℕ → Meaning
nameless_unions count = record { nodes = file (4 * count + 1) ∷ unions count 1 1; texts = texts count 1 }

-- so many `mod m;`
abbrev modules : ℕ → ℕ → List Node
modules zero i = []
modules (suc count) i = node_of kind.Module (i + 1) 1 1 ∷ modules count (i + 1)

abbrev pub many_modules : ℕ → Meaning
many_modules count = record { nodes = file (count + 1) ∷ modules count 1; texts = codes "m" ∷ [] }

abbrev pub run_rows : List Run
run_rows =
    -- the same node lowered twice gives two items
    run module_source (root ∷ item 1 ∷ []) (items 1 ∷ id (Some 3) ∷ [])
    -- nodes that are no item children of the root; root lowering after a call that was not refused
    ∷ run module_source (item 2 ∷ item 0 ∷ item 4 ∷ item 1 ∷ root ∷ []) (refused NotAnItem ∷ refused NotAnItem ∷ refused NotAnItem ∷ id (Some 1) ∷ refused NotFirst ∷ [])
    -- passed over, and not refused
    ∷ run nameless_struct (item 1 ∷ root ∷ []) (id None ∷ refused NotFirst ∷ [])
    -- 128 Module visibilities, and one more, of items that are passed over; the run goes on
    ∷ run (nameless_unions 128) (root ∷ []) (items 0 ∷ [])
    ∷ run (nameless_unions 129) (root ∷ item 1 ∷ root ∷ []) (refused TableFull ∷ id None ∷ refused NotFirst ∷ [])
    -- 256 big records, and one more
    ∷ run (many_modules 256) (root ∷ item 1 ∷ []) (items 256 ∷ refused TableFull ∷ [])
    ∷ run (many_modules 257) (root ∷ item 1 ∷ []) (refused TableFull ∷ id (Some 1) ∷ [])
    ∷ []

-- what the nameless struct leaves
abbrev pub NamelessStands : Type 0
NamelessStands =
    ((lowered nameless_struct new (root ∷ [])).entries ≡ empty)
    × (modules_in (lowered nameless_struct new (root ∷ [])).recorded ≡ spelt Plain (1 ∷ []) ∷ [])

-- the printed text of a source whose root is lowered
abbrev pub printed_root : Meaning → List ℕ
printed_root m = printed m (lowered m new (root ∷ [])).top (lowered m new (root ∷ [])).entries

pub record Print : Type 0 where
  pub source : Meaning
  pub text : List ℕ

abbrev print : List Node → List (List ℕ) → List ℕ → Print
print nodes texts text = record { source = record { nodes = nodes; texts = texts }; text = text }

abbrev pub PrintsStand : List Print → Type 0
PrintsStand [] = Unit {0}
PrintsStand (r ∷ later) = (lawful r.source ≡ true) × (printed_root r.source ≡ r.text) × PrintsStand later

abbrev module' : ℕ → ℕ → Node
module' end text = node_of kind.Module end text 0

abbrev fn : ℕ → ℕ → Node
fn end text = node_of kind.Fn end text 0

abbrev impl : ℕ → Node
impl end = node_of kind.Impl end 0 0

abbrev attr : ℕ → ℕ → ℕ → Node
attr end text mark = node_of kind.Attr end text mark

abbrev pub prints : List Print
prints =
    -- a file without items
    print (file 1 ∷ []) [] (codes "\n")
    -- mod m { fn f() {} impl S {} }
    ∷ print (file 4 ∷ module' 4 1 ∷ fn 3 2 ∷ impl 4 ∷ []) (codes "m" ∷ codes "f" ∷ [])
    (codes "// AstId: 1\npub(self) mod m {\n    // AstId: 2\n    pub(self) fn f;\n\n    // AstId: 3\n    impl { ... }}\n")
    -- mod m { impl S {} fn f() {} }
    ∷ print (file 4 ∷ module' 4 1 ∷ impl 3 ∷ fn 4 2 ∷ []) (codes "m" ∷ codes "f" ∷ [])
    (codes "// AstId: 1\npub(self) mod m {\n    // AstId: 2\n    impl { ... }\n\n// AstId: 3\n    pub(self) fn f;\n}\n")
    -- mod m { mod n { pub trait T {} } }
    ∷ print (file 5 ∷ module' 5 1 ∷ module' 5 2 ∷ node_of kind.Trait 5 3 0 ∷ pub' 5 ∷ []) (codes "m" ∷ codes "n" ∷ codes "T" ∷ [])
    (codes "// AstId: 1\npub(self) mod m {\n    // AstId: 2\n    pub(self) mod n {\n        // AstId: 3\n        pub trait T { ... }}\n}\n")
    -- mod a {}
    ∷ print (file 2 ∷ module' 2 1 ∷ []) (codes "a" ∷ []) (codes "// AstId: 1\npub(self) mod a {\n}\n")
    -- a constant whose name is `a`, a newline and `b`, in a module
    ∷ print (file 3 ∷ module' 3 1 ∷ node_of kind.Const 3 2 0 ∷ []) (codes "m" ∷ codes "a\nb" ∷ [])
    (codes "// AstId: 1\npub(self) mod m {\n    // AstId: 2\n    pub(self) const a\n    b = _;\n}\n")
    -- #[a] #[cfg(not(x))] #[b] fn f() {}, where the condition is false
    ∷ print (file 9 ∷ fn 9 1 ∷ attr 5 0 0 ∷ path 5 ∷ name 5 2 ∷ attr 6 3 4 ∷ attr 9 0 0 ∷ path 9 ∷ name 9 4 ∷ []) (codes "f" ∷ codes "a" ∷ codes "not(x)" ∷ codes "b" ∷ [])
    (codes "#[a]\n#[cfg(not(x))]\n// AstId: 1\npub(self) fn f;\n")
    -- #![a] use ::{b, c as _};
    ∷ print (file 13 ∷ attr 4 0 0 ∷ path 4 ∷ name 4 1 ∷ use' 13 ∷ bare_group 13 ∷ single 9 ∷ path 9 ∷ name 9 2 ∷ single 13 ∷ path 12 ∷ name 12 3 ∷ rename 13 0 ∷ []) (codes "a" ∷ codes "b" ∷ codes "c" ∷ [])
    (codes "#![a]\n\n// AstId: 4\npub(self) use ::{b, c as _};\n")
    ∷ []

-- a text that the source lacks is refused before want of room, and want of room with the length needed
abbrev pub RoomStands : Type 0
RoomStands =
    (printing (record { nodes = []; texts = codes "m" ∷ [] }) (enabled []) (lowered module_source new (root ∷ [])).entries 0 ≡ Err MissingText)
    × (printing module_source (enabled []) (lowered module_source new (root ∷ [])).entries 101 ≡ Ok 101)
    × (printing module_source (enabled []) (lowered module_source new (root ∷ [])).entries 100 ≡ Err (TooShort (Bytes 101)))

abbrev pub ExamplesStand : Type 0
ExamplesStand = Stand eight × Stand further × ModuleStands × RunsStand run_rows × NamelessStands × PrintsStand prints × RoomStands
