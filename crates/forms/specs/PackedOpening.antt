-- What opening the packed form answers.
use Rattle.std.specs.Prelude.{ℕ, ◌⊎◌, List}
use Rattle.syntax.specs.Meaning.{Meaning}
use Rattle.syntax.specs.declared.refusal.Refusal.{Refusal}
use Rattle.forms.specs.Form.{form_fields, FormOf}
use Rattle.forms.specs.Reading.{Any, Cut, Long, BadNumber}
use Rattle.forms.specs.Opening.{CauseOf, Opens, Refuses}

-- 1 where the bytes end too early or too late, 2 where a number is bad
abbrev pub PackedCause : List ℕ → Refusal → Type 0
PackedCause bytes = CauseOf (FormOf bytes) (Cut Any form_fields bytes ⊎ Long bytes) (BadNumber Any form_fields bytes)

abbrev pub PackedOpens : List ℕ → Meaning → Type 0
PackedOpens bytes = Opens (FormOf bytes) (PackedCause bytes)

abbrev pub PackedRefuses : List ℕ → Refusal → Type 0
PackedRefuses bytes = Refuses (FormOf bytes) (PackedCause bytes)
