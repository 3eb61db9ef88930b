-- What C is answered in place of a refusal.
use Rattle.std.specs.Prelude.{ℕ}
use Rattle.syntax.specs.declared.refusal.Needed.{Needed}
use Rattle.syntax.specs.declared.refusal.Needed.TheVariants.{Bytes, Imports, UseTree}
use Rattle.syntax.specs.declared.refusal.Refusal.{Refusal}
use Rattle.syntax.specs.declared.refusal.Refusal.TheVariants.{Form, Number, Law, NotAnItem, NotFirst, TableFull, IndexTooLarge, NotFound, TooShort, MissingText}

abbrev pub bytes_needed : Needed → ℕ
bytes_needed (Bytes len) = len
bytes_needed (Imports imports names) = 0
bytes_needed (UseTree nodes mapping) = 0

-- the length beside a refusal's number
abbrev pub length_beside : Refusal → ℕ
length_beside Form = 0
length_beside Number = 0
length_beside Law = 0
length_beside NotAnItem = 0
length_beside NotFirst = 0
length_beside TableFull = 0
length_beside IndexTooLarge = 0
length_beside NotFound = 0
length_beside (TooShort needed) = bytes_needed needed
length_beside MissingText = 0
