-- What the mark of a node says of its item.
use Rattle.std.specs.Prelude.{ℕ, List, ◌++◌, codes, decimal}
use Rattle.items.specs.declared.records.ExpandTo.{ExpandTo}
use Rattle.items.specs.declared.records.ExpandTo.TheVariants.{Statements, Items, Pattern, «Type» as Typed, Expr}
use Rattle.items.specs.declared.records.FieldsShape.{FieldsShape}
use Rattle.items.specs.declared.records.FieldsShape.TheVariants.{Record, Unit as Nothing, Tuple}
use Rattle.items.specs.declared.records.UnknownMark.{UnknownMark}

-- of a MacroCall
abbrev pub expand_mark : ExpandTo → ℕ
expand_mark Statements = 0
expand_mark Items = 1
expand_mark Pattern = 2
expand_mark Typed = 3
expand_mark Expr = 4

-- the variant's name
abbrev pub expand_word : ExpandTo → List ℕ
expand_word Statements = codes "Statements"
expand_word Items = codes "Items"
expand_word Pattern = codes "Pattern"
expand_word Typed = codes "Type"
expand_word Expr = codes "Expr"

-- of a Struct
abbrev pub shape_mark : FieldsShape → ℕ
shape_mark Record = 0
shape_mark Nothing = 1
shape_mark Tuple = 2

abbrev pub unknown_text : UnknownMark → List ℕ
unknown_text unknown = codes "mark " ++ decimal unknown.mark ++ codes " says nothing"
