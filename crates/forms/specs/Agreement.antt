-- Two forms, one meaning.
use Rattle.std.specs.Prelude.{◌≡◌, ℕ, ◌^◌, ◌<◌, true, List}
use Rattle.std.specs.List.{AllByRecursion}
use Rattle.syntax.specs.Law.{lawful}
use Rattle.syntax.specs.Meaning.{Meaning}
use Rattle.forms.specs.Form.{Narrow, form_fields, FormOf}
use Rattle.forms.specs.PackedOpening.{PackedOpens}
use Rattle.forms.specs.WordOpening.{WordOpens}
use Rattle.forms.specs.Words.{WordFormOf}

abbrev pub Byte : ℕ → Type 0
Byte b = b < 2 ^ 8

abbrev pub Word : ℕ → Type 0
Word w = w < 2 ^ 32

-- every number of m has 32 bits, and its texts are of bytes
pub record Sized (m : Meaning) : Type 0 where
  pub numbers : Narrow (form_fields m)
  pub bytes : AllByRecursion (AllByRecursion Byte) m.texts

-- a packed form and a word form of m, which both open as m
pub record BothForms (m : Meaning) : Type 0 where
  pub packed : List ℕ
  pub words : List ℕ
  pub bytes : List ℕ
  pub are_bytes : AllByRecursion Byte packed × AllByRecursion Byte bytes
  pub are_words : AllByRecursion Word words
  pub packed_opens : PackedOpens packed m
  pub words_open : WordOpens words bytes m

-- what is lawful has both forms, and two forms of one meaning open as equal ones
pub record OneMeaning : Type 0 where
  pub both : (m : Meaning) → Sized m → lawful m ≡ true → BothForms m
  pub equal : (packed words bytes : List ℕ) (m k l : Meaning) → FormOf packed m → WordFormOf words bytes m → PackedOpens packed k → WordOpens words bytes l → k ≡ l
