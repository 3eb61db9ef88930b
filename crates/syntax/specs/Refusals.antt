-- The number of each refusal.
use Rattle.std.specs.Prelude.{ℕ, List, ◌++◌, codes}
use Rattle.std.specs.Fmt.{decimal}
use Rattle.syntax.specs.declared.refusal.Refusal.{Refusal}
use Rattle.syntax.specs.declared.refusal.Refusal.TheVariants.{Form, Number, Law, NotAnItem, NotFirst, TableFull, IndexTooLarge, NotFound, TooShort, MissingText}

abbrev pub number_of : Refusal → ℕ
number_of Form = 1
number_of Number = 2
number_of Law = 3
number_of NotAnItem = 4
number_of NotFirst = 5
number_of TableFull = 6
number_of IndexTooLarge = 7
number_of NotFound = 8
number_of (TooShort needed) = 9
number_of MissingText = 10

-- how a program names a refusal
abbrev pub text_of : Refusal → List ℕ
text_of refusal = codes "refused " ++ decimal (number_of refusal)
