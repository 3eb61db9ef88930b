-- The number of each kind of node.
use Rattle.std.specs.Prelude.{◌≡◌, ◌≢◌, ℕ, List, ◌++◌, codes, decimal, Bool, ◌&&◌, nat_le, Result, MatchResult}
use Rattle.syntax.specs.declared.kind.SyntaxKind.{SyntaxKind}
use Rattle.syntax.specs.declared.kind.UnknownKind.{UnknownKind}
use Rattle.syntax.specs.declared.kind.SyntaxKind.TheVariants.{File, Struct, Union, Enum, Fn, TypeAlias, Static, Const, Module, Trait, Impl, Use, ExternCrate, MacroCall, MacroRules, MacroDef, ExternBlock, AsmExpr, Vis, Path, Segment, UseTree, Rename, Field, Attr}

abbrev pub number_of : SyntaxKind → ℕ
number_of File = 0
number_of Struct = 10
number_of Union = 11
number_of Enum = 12
number_of Fn = 13
number_of TypeAlias = 14
number_of Static = 15
number_of Const = 16
number_of Module = 17
number_of Trait = 18
number_of Impl = 19
number_of Use = 20
number_of ExternCrate = 21
number_of MacroCall = 22
number_of MacroRules = 23
number_of MacroDef = 24
number_of ExternBlock = 25
number_of AsmExpr = 26
number_of Vis = 30
number_of Path = 31
number_of Segment = 32
number_of UseTree = 33
number_of Rename = 34
number_of Field = 35
number_of Attr = 36

-- items are the kinds from Struct to AsmExpr
abbrev pub is_item : ℕ → Bool
is_item kind = nat_le (number_of Struct) kind && nat_le kind (number_of AsmExpr)

-- the kind that has the number, or an error with a number that no kind has
abbrev pub Decodes : ℕ → Result SyntaxKind UnknownKind → Type 0
Decodes number r = MatchResult r (λ kind. number_of kind ≡ number) (λ e. (e.number ≡ number) × ((kind : SyntaxKind) → number_of kind ≢ number))

abbrev pub unknown_text : UnknownKind → List ℕ
unknown_text unknown = codes "no kind of node has number " ++ decimal unknown.number
