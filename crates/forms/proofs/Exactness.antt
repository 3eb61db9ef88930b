-- Opening answers one thing.
use Rattle.std.proofs.Common.{◌≡◌, true, false, ◌⊎◌, sym, refl, ap, ◌∙◌, inl, inr, ⊎_elim}
use Rattle.std.proofs.lemmas.Bool.{true≢false}
use Rattle.syntax.specs.Meaning.{Meaning}
use Rattle.syntax.specs.Law.{lawful}
use Rattle.syntax.specs.declared.refusal.Refusal.{Refusal}
use Rattle.syntax.specs.declared.refusal.Refusal.TheVariants.{Form, Number, Law, NotAnItem, NotFirst, TableFull, IndexTooLarge, NotFound, TooShort, MissingText}
use Rattle.forms.specs.Opening.{CauseOf, Opens, Refuses}

-- a form is the form of one thing, and its causes exclude it and each other
pub record Exact (FormOf : Meaning → Type 0) (form number : Type 0) : Type 0 where
  pub one : (m k : Meaning) → FormOf m → FormOf k → m ≡ k
  pub form_not : (m : Meaning) → FormOf m → form → ⊥
  pub number_not : (m : Meaning) → FormOf m → number → ⊥
  pub apart : number → form → ⊥

module _ {FormOf : Meaning → Type 0} {form number : Type 0} (x : Exact FormOf form number) where
  abbrev Cause : Refusal → Type 0
  Cause = CauseOf FormOf form number

  -- a cause is one of three
  causes : (d : Refusal) → Cause d → ((d ≡ Form) × form) ⊎ (((d ≡ Number) × number) ⊎ ((d ≡ Law) × Cause Law))
  causes Form q = inl (refl, q)
  causes Number q = inr (inl (refl, q))
  causes Law q = inr (inr (refl, q))
  causes NotAnItem q = absurd q
  causes NotFirst q = absurd q
  causes TableFull q = absurd q
  causes IndexTooLarge q = absurd q
  causes NotFound q = absurd q
  causes (TooShort needed) q = absurd q
  causes MissingText q = absurd q

  -- the answers
  pub refuses_form : form → Refuses FormOf Cause Form
  refuses_form p = record {
    cause = p;
    only = λ d q. ⊎_elim (λ k. k.0) (⊎_elim (λ k. absurd (x.apart k.1 p)) (λ k. absurd (x.form_not k.1.0 k.1.1 p))) (causes d q);
    unlawful = λ m q. absurd (x.form_not m q p);
  }

  pub refuses_number : number → Refuses FormOf Cause Number
  refuses_number p = record {
    cause = p;
    only = λ d q. ⊎_elim (λ k. absurd (x.apart p k.1)) (⊎_elim (λ k. k.0) (λ k. absurd (x.number_not k.1.0 k.1.1 p))) (causes d q);
    unlawful = λ m q. absurd (x.number_not m q p);
  }

  module _ (m : Meaning) (p : FormOf m) where
    law-only : (d : Refusal) → Cause d → (d ≡ Law) × Cause Law
    law-only d q = ⊎_elim (λ k. absurd (x.form_not m p k.1)) (⊎_elim (λ k. absurd (x.number_not m p k.1)) (λ k. k)) (causes d q)

    pub refuses_law : lawful m ≡ false → Refuses FormOf Cause Law
    refuses_law h = record { cause = (m, p, h); only = λ d q. (law-only d q).0; unlawful = λ k q. ap lawful (x.one k m q p) ∙ h }

    pub opens_form : lawful m ≡ true → Opens FormOf Cause m
    opens_form h = record {
      form = p;
      law = h;
      only = λ k q. x.one k m q p;
      no_cause = λ e q. let c = (law-only e q).1 in true≢false (sym h ∙ ap lawful (x.one m c.0 p c.1) ∙ c.2);
    }
