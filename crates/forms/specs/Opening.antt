-- What opening answers, whatever the form.
use Rattle.std.specs.Prelude.{◌≡◌, true, false}
use Rattle.syntax.specs.Meaning.{Meaning}
use Rattle.syntax.specs.Law.{lawful}
use Rattle.syntax.specs.declared.refusal.Refusal.{Refusal}
use Rattle.syntax.specs.declared.refusal.Refusal.TheVariants.{Form, Number, Law, NotAnItem, NotFirst, TableFull, IndexTooLarge, NotFound, TooShort, MissingText}

-- the causes of the three refusals of opening: 3 where it is the form of what breaks the law
abbrev pub CauseOf : (Meaning → Type 0) → Type 0 → Type 0 → Refusal → Type 0
CauseOf FormOf form number Form = form
CauseOf FormOf form number Number = number
CauseOf FormOf form number Law = (m : Meaning) × FormOf m × (lawful m ≡ false)
CauseOf FormOf form number NotAnItem = ⊥
CauseOf FormOf form number NotFirst = ⊥
CauseOf FormOf form number TableFull = ⊥
CauseOf FormOf form number IndexTooLarge = ⊥
CauseOf FormOf form number NotFound = ⊥
CauseOf FormOf form number (TooShort needed) = ⊥
CauseOf FormOf form number MissingText = ⊥

-- it is the form of the lawful m and of nothing else, and there is no cause for a refusal
pub record Opens (FormOf : Meaning → Type 0) (Cause : Refusal → Type 0) (m : Meaning) : Type 0 where
  pub form : FormOf m
  pub law : lawful m ≡ true
  pub only : (k : Meaning) → FormOf k → k ≡ m
  pub no_cause : (e : Refusal) → Cause e → ⊥

-- there is this cause and no other, and it is the form of nothing lawful
pub record Refuses (FormOf : Meaning → Type 0) (Cause : Refusal → Type 0) (e : Refusal) : Type 0 where
  pub cause : Cause e
  pub only : (d : Refusal) → Cause d → d ≡ e
  pub unlawful : (m : Meaning) → FormOf m → lawful m ≡ false
