-- Printing puts the level back, and ends with one newline.
use Rattle.std.proofs.Common.{◌≡◌, ℕ, zero, suc, ◌+◌, ◌-◌, eqb, List, [], ◌∷◌, ◌++◌, replicate, Some, None, codes, decimal, Option, unwrap_or, sym, refl, ap, ◌∙◌, subst, arith}
use Rattle.std.proofs.lemmas.List.{reverse-reverse}
use Rattle.std.proofs.lemmas.Bool.{cond_both}
use Rattle.std.specs.List.{AllByRecursion}
use Rattle.syntax.specs.Meaning.{Meaning, text_at}
use Rattle.paths.specs.Spelling.{Path}
use Rattle.paths.specs.declared.mod_path.PathKind.{PathKind}
use Rattle.paths.specs.declared.mod_path.PathKind.TheVariants.{Plain, Super, Crate, Abs, DollarCrate}
use Rattle.paths.specs.declared.name.Name.{Name}
use Rattle.paths.specs.declared.name.Name.TheVariants.{Text, Missing}
use Rattle.items.specs.Attributes.{Attribute, AttrList, enabled, disabled}
use Rattle.items.specs.Written.{Visibility, everywhere, in_crate, in_self, in_module}
use Rattle.items.specs.declared.attrs.AttrInput.{AttrInput}
use Rattle.items.specs.declared.attrs.AttrInput.TheVariants.{Literal, TokenTree}
use Rattle.items.specs.declared.use_tree.ImportAlias.{ImportAlias}
use Rattle.items.specs.declared.use_tree.ImportAlias.TheVariants.{Underscore, Alias}
use Rattle.rules.specs.Entries.{ModKind, inline, outline, Record, Struct, Union, Enum, Function, TypeAlias, Static, Const, Mod, Trait, Impl, Use, ExternCrate, MacroCall, MacroRules, Macro2, ExternBlock, Entry, Entries, empty, entry}
use Rattle.rules.specs.Pieces.{Piece, bytes, text, blank_line, trim, deeper, back, joined_by, name_pieces, name_parts, kind_parts, path_pieces, alias_pieces, rename_pieces, visibility_pieces, prefix_pieces, use_pieces, use_parts, tree_pieces, input_pieces, attribute_pieces, attributes_pieces, condition_pieces, list_pieces, braces, named, const_name, mod_pieces, record_pieces, expand_word, call_pieces, id_pieces, entry_pieces, item_pieces, pieces}
use Rattle.rules.specs.Printed.{Page, start, byte, say, put, laid_out, newline, trimmed, printed, LevelsBack, EndsOnce, TextsEnd}
use Rattle.rules.specs.Uses.{UseNode, single, glob, group, UseTrees, nothing, tree}

say-level : (bs : List ℕ) (p : Page) → (say p bs).level ≡ p.level
say-level [] p = refl
say-level (b ∷ bs) p = say-level bs (byte p b)

laid_append : (m : Meaning) (xs ys : List Piece) (p : Page) → laid_out m p (xs ++ ys) ≡ laid_out m (laid_out m p xs) ys
laid_append m [] ys p = refl
laid_append m (x ∷ xs) ys p = laid_append m xs ys (put m p x)

-- pieces that leave the level as it was
record Even (xs : List Piece) : Type 0 where
  keeps : (m : Meaning) (p : Page) → (laid_out m p xs).level ≡ p.level

none : Even []
none = record { keeps = λ m p. refl }

both : (xs ys : List Piece) → Even xs → Even ys → Even (xs ++ ys)
both xs ys f g = record { keeps = λ m p. ap (λ (q : Page). q.level) (laid_append m xs ys p) ∙ (g.keeps m (laid_out m p xs) ∙ f.keeps m p) }

said : (bs : List ℕ) (xs : List Piece) → Even xs → Even (bytes bs ∷ xs)
said bs xs f = record { keeps = λ m p. f.keeps m (say p bs) ∙ say-level bs p }

word : (bs : List ℕ) → Even (bytes bs ∷ [])
word bs = said bs [] none

told : (number : ℕ) (xs : List Piece) → Even xs → Even (text number ∷ xs)
told number xs f = record { keeps = λ m p. f.keeps m (say p (unwrap_or (text_at m number) [])) ∙ say-level (unwrap_or (text_at m number) []) p }

blank : (xs : List Piece) → Even xs → Even (blank_line ∷ xs)
blank xs f = record { keeps = λ m p. f.keeps m (put m p blank_line) }

joined_even : (sep : List Piece) (parts : List (List Piece)) → Even sep → AllByRecursion Even parts → Even (joined_by sep parts)
joined_even sep [] s h = none
joined_even sep (x ∷ []) s h = h.0
joined_even sep (x ∷ y ∷ later) s h = both x (sep ++ joined_by sep (y ∷ later)) h.0 (both sep (joined_by sep (y ∷ later)) s (joined_even sep (y ∷ later) s h.1))

name_even : (n : Name) → Even (name_pieces n)
name_even (Text number) = told number [] none
name_even Missing = word (codes "[missing name]")

names_even : (ns : List Name) → AllByRecursion Even (name_parts ns)
names_even [] = tt
names_even (n ∷ later) = (name_even n, names_even later)

each_both : (xs ys : List (List Piece)) → AllByRecursion Even xs → AllByRecursion Even ys → AllByRecursion Even (xs ++ ys)
each_both [] ys f g = g
each_both (x ∷ xs) ys f g = (f.0, each_both xs ys f.1 g)

copies_even : (n : ℕ) (x : List Piece) → Even x → AllByRecursion Even (replicate n x)
copies_even zero x h = tt
copies_even (suc n) x h = (h, copies_even n x h)

kind_even : (k : PathKind) → AllByRecursion Even (kind_parts k)
kind_even Plain = tt
kind_even Abs = (none, tt)
kind_even (Super zero) = (word (codes "self"), tt)
kind_even (Super (suc n)) = copies_even (suc n) (bytes (codes "super") ∷ []) (word (codes "super"))
kind_even Crate = (word (codes "crate"), tt)
kind_even DollarCrate = (word (codes "$crate"), tt)

path_even : (p : Path) → Even (path_pieces p)
path_even p = joined_even (bytes (codes "::") ∷ []) (kind_parts p.kind ++ name_parts p.names) (word (codes "::")) (each_both (kind_parts p.kind) (name_parts p.names) (kind_even p.kind) (names_even p.names))

alias_even : (a : ImportAlias) → Even (alias_pieces a)
alias_even Underscore = word (codes "_")
alias_even (Alias n) = name_even n

rename_even : (a : Option ImportAlias) → Even (rename_pieces a)
rename_even None = none
rename_even (Some a) = said (codes " as ") (alias_pieces a) (alias_even a)

visibility_even : (v : Visibility) → Even (visibility_pieces v)
visibility_even everywhere = word (codes "pub ")
visibility_even in_crate = word (codes "pub(crate) ")
visibility_even (in_self e) = word (codes "pub(self) ")
visibility_even (in_module p) = said (codes "pub(in ") _ (both (path_pieces p) _ (path_even p) (word (codes ") ")))

prefix_even : (o : Option Path) → Even (prefix_pieces o)
prefix_even None = none
prefix_even (Some p) = both (path_pieces p) _ (path_even p) (word (codes "::"))

use_even : (x : UseNode) (members : List Piece) → Even members → Even (use_pieces x members)
use_even (single p alias) members h = both (path_pieces p) (rename_pieces alias) (path_even p) (rename_even alias)
use_even (glob p) members h = both (prefix_pieces p) _ (prefix_even p) (word (codes "*"))
use_even (group p) members h = both (prefix_pieces p) _ (prefix_even p) (said (codes "{") _ (both members _ h (word (codes "}"))))

uses_even : (t : UseTrees) → AllByRecursion Even (use_parts t)
uses_even nothing = tt
uses_even (tree x members later) = (use_even x (tree_pieces members) (joined_even (bytes (codes ", ") ∷ []) (use_parts members) (word (codes ", ")) (uses_even members)), uses_even later)

tree_even : (t : UseTrees) → Even (tree_pieces t)
tree_even t = joined_even (bytes (codes ", ") ∷ []) (use_parts t) (word (codes ", ")) (uses_even t)

input_even : (o : Option AttrInput) → Even (input_pieces o)
input_even None = none
input_even (Some (Literal number)) = told number [] none
input_even (Some (TokenTree number)) = told number [] none

attributes_even : (opening : List ℕ) (xs : List Attribute) → Even (attributes_pieces opening xs)
attributes_even opening [] = none
attributes_even opening (a ∷ later) =
    both (attribute_pieces opening a) (attributes_pieces opening later)
    (said opening _ (both (path_pieces a.path) _ (path_even a.path) (both (input_pieces a.input) _ (input_even a.input) (word (codes "]\n")))))
    (attributes_even opening later)

condition_even : (o : Option ℕ) → Even (condition_pieces o)
condition_even None = none
condition_even (Some number) = told number [] none

list_even : (opening : List ℕ) (l : AttrList) → Even (list_pieces opening l)
list_even opening (enabled xs) = attributes_even opening xs
list_even opening (disabled o xs) =
    both (attributes_pieces opening xs) _ (attributes_even opening xs) (said opening _ (said (codes "cfg(") _ (both (condition_pieces o) _ (condition_even o) (word (codes ")]\n")))))

-- one level deeper and back
braces_keep : (inside : List Piece) → Even inside → (m : Meaning) (p : Page) → (laid_out m p (braces inside)).level ≡ p.level
braces_keep inside h m p =
    let open' : Page = put m (put m (put m p (bytes (codes "{"))) deeper) (bytes (codes "\n")) in
    let close : List Piece = back ∷ trim ∷ bytes (codes "}\n") ∷ [] in
    let after : Page = laid_out m open' inside in
    let a : open'.level ≡ p.level + 1 = say-level (codes "\n") (put m (say p (codes "{")) deeper) ∙ ap (λ k. k + 1) (say-level (codes "{") p) in
    let b : after.level ≡ open'.level = h.keeps m open' in
    let c : (laid_out m after close).level ≡ after.level - 1 = say-level (codes "}\n") (put m (put m after back) trim) in
    let d : (laid_out m p (braces inside)).level ≡ (laid_out m after close).level = ap (λ (q : Page). q.level) (laid_append m inside close open') in
    omega (arith, a, b, c, d)

braces_even : (inside : List Piece) → Even inside → Even (braces inside)
braces_even inside h = record { keeps = braces_keep inside h }

named_even : (v : Visibility) (word : List ℕ) (n : Name) (ending : List Piece) → Even ending → Even (named v word n ending)
named_even v word n ending h = both (visibility_pieces v) _ (visibility_even v) (said word _ (both (name_pieces n) ending (name_even n) h))

const_even : (o : Option Name) → Even (const_name o)
const_even None = word (codes "_")
const_even (Some n) = name_even n

mod_even : (k : ModKind) (inside : List Piece) → Even inside → Even (mod_pieces k inside)
mod_even outline inside h = word (codes ";\n")
mod_even (inline ids) inside h = said (codes " ") (braces inside) (braces_even inside h)

record_even : (r : Record) (inside : List Piece) → Even inside → Even (record_pieces r inside)
record_even (Use v trees) inside h = both (visibility_pieces v) _ (visibility_even v) (said (codes "use ") _ (both (tree_pieces trees) _ (tree_even trees) (word (codes ";\n"))))
record_even (ExternCrate n alias v) inside h = named_even v (codes "extern crate ") n _ (both (rename_pieces alias) _ (rename_even alias) (word (codes ";\n")))
record_even (ExternBlock ids) inside h = said (codes "extern ") (braces inside) (braces_even inside h)
record_even (Function n v) inside h = named_even v (codes "fn ") n _ (word (codes ";\n"))
record_even (Struct n v c) inside h = named_even v (codes "struct ") n _ (word (codes " { ... }\n"))
record_even (Union n v) inside h = named_even v (codes "union ") n _ (word (codes " { ... }\n"))
record_even (Enum n v) inside h = named_even v (codes "enum ") n _ (word (codes " { ... }\n"))
record_even (Const n v) inside h = both (visibility_pieces v) _ (visibility_even v) (said (codes "const ") _ (both (const_name n) _ (const_even n) (word (codes " = _;\n"))))
record_even (Static n v) inside h = named_even v (codes "static ") n _ (word (codes " = _;\n"))
record_even (Trait n v) inside h = named_even v (codes "trait ") n _ (word (codes " { ... }"))
record_even (Impl of_trait) inside h = word (codes "impl { ... }")
record_even (TypeAlias n v) inside h = named_even v (codes "type ") n _ (word (codes ";\n"))
record_even (Mod n v items) inside h = named_even v (codes "mod ") n _ (mod_even items inside h)
record_even (MacroCall p expand) inside h = both (path_pieces p) _ (path_even p) (word (codes "!(...);\n"))
record_even (MacroRules n) inside h = said (codes "macro_rules! ") _ (both (name_pieces n) _ (name_even n) (word (codes " { ... }\n")))
record_even (Macro2 n v) inside h = named_even v (codes "macro ") n _ (word (codes " { ... }\n"))

call_even : (r : Record) → Even (call_pieces r)
call_even (Use v trees) = none
call_even (ExternCrate n alias v) = none
call_even (ExternBlock ids) = none
call_even (Function n v) = none
call_even (Struct n v c) = none
call_even (Union n v) = none
call_even (Enum n v) = none
call_even (Const n v) = none
call_even (Static n v) = none
call_even (Trait n v) = none
call_even (Impl of_trait) = none
call_even (TypeAlias n v) = none
call_even (Mod n v items) = none
call_even (MacroCall p expand) = said (codes ", SyntaxContextId: 0, ExpandTo: ") _ (word (expand_word expand))
call_even (MacroRules n) = none
call_even (Macro2 n v) = none

entry_even : (e : Entry) (inside : List Piece) → Even inside → Even (entry_pieces e inside)
entry_even e inside h =
    both (list_pieces (codes "#[") e.attrs) _ (list_even (codes "#[") e.attrs)
    (both (id_pieces e) _ (said (codes "// AstId: ") _ (said (decimal e.ast_id) _ (both (call_pieces e.item) _ (call_even e.item) (word (codes "\n")))))
    (both (record_pieces e.item inside) _ (record_even e.item inside h) (blank [] none)))

items_even : (es : Entries) → Even (item_pieces es)
items_even empty = none
items_even (entry e inside later) = both (entry_pieces e (item_pieces inside)) (item_pieces later) (entry_even e (item_pieces inside) (items_even inside)) (items_even later)

pub levels-back : LevelsBack
levels-back m p top es = (both (list_pieces (codes "#![") top) (blank_line ∷ item_pieces es) (list_even (codes "#![") top) (blank (item_pieces es) (items_even es))).keeps m p

trimmed_once : (bs : List ℕ) → trimmed (trimmed bs) ≡ trimmed bs
trimmed_once [] = refl
trimmed_once (b ∷ before) = cond_both (eqb b newline) (trimmed before) (b ∷ before) (λ rest. trimmed rest ≡ rest) (λ _. trimmed_once before) (λ other. rw other refl)

pub texts_end : TextsEnd
unfolding printed
texts_end m top es =
    let before : List ℕ = (laid_out m start (pieces top es)).backwards in
    let once : EndsOnce (newline ∷ trimmed before) = (refl, trimmed_once before) in
    subst EndsOnce (sym (reverse-reverse (newline ∷ trimmed before))) once
