-- A packed form is one thing, and neither cut short nor too long nor one with a bad number.
use Rattle.std.proofs.Common.{◌≡◌, ℕ, ◌<◌, ◌⊎◌, List, [], ◌++◌, length, sym, ap, ◌∙◌, inl, inr, append_assoc, append-nil, arith}
use Rattle.syntax.specs.Meaning.{Meaning}
use Rattle.syntax.specs.declared.refusal.Refusal.{Refusal}
use Rattle.forms.specs.declared.number.NumberFault.{NumberFault}
use Rattle.forms.specs.declared.number.NumberFault.TheVariants.{CutShort, TooWide, NotShortest}
use Rattle.forms.specs.Form.{in_bytes, Narrow, form_fields, FormOf}
use Rattle.forms.specs.Reading.{Any, Cut, Stray, BadNumber, Long, Fails, Unread}
use Rattle.forms.specs.PackedOpening.{PackedRefuses}
use Rattle.forms.proofs.Exactness.{Exact, refuses_form, refuses_number}
use Rattle.forms.proofs.Whole.{form-single, form_firm}

pub nothing_left : (rest : List ℕ) → 0 < length rest → rest ≡ [] → ⊥
nothing_left rest some e = omega (arith, ap length e)

module _ (bytes : List ℕ) where
  -- the bytes, and more of them, hold a form at their front
  record Begins (more : List ℕ) : Type 0 where
    pub meaning : Meaning
    pub rest : List ℕ
    pub narrow : Narrow (form_fields meaning)
    pub same : bytes ++ more ≡ in_bytes (form_fields meaning) ++ rest

  form-begins : (m : Meaning) → FormOf bytes m → Begins []
  form-begins m p = record { meaning = m; rest = []; narrow = p.narrow; same = ap (λ l. l ++ []) p.same }

  long-begins : Long bytes → Begins []
  long-begins p = record { meaning = p.meaning; rest = p.rest; narrow = p.narrow; same = append-nil bytes ∙ p.same }

  cut-begins : (p : Cut Any form_fields bytes) → Begins p.rest
  cut-begins p = record { meaning = p.whole; rest = []; narrow = p.narrow; same = p.same ∙ sym (append-nil (in_bytes (form_fields p.whole))) }

  -- where a number is bad, no form begins so
  stray-not : (fault : NumberFault) (more : List ℕ) → (fault ≡ CutShort → ⊥) → Stray Any form_fields bytes fault → Begins more → ⊥
  stray-not fault more other p q =
      form_firm p.whole q.meaning p.before p.after p.value p.bad more q.rest fault tt tt p.narrow q.narrow other p.faulty p.there (sym (append_assoc (in_bytes p.before) p.bad more) ∙ ap (λ l. l ++ more) (sym p.same) ∙ q.same)

  bad-not : (more : List ℕ) → BadNumber Any form_fields bytes → Begins more → ⊥
  bad-not more (inl p) q = stray-not TooWide more (λ e. let never : ◌≡◌ {A = ℕ} 0 1 = cc in omega arith) p q
  bad-not more (inr p) q = stray-not NotShortest more (λ e. let never : ◌≡◌ {A = ℕ} 0 1 = cc in omega arith) p q

  -- a form neither ends too early nor too late
  cut-not : (m : Meaning) → Cut Any form_fields bytes → FormOf bytes m → ⊥
  cut-not m p q =
      nothing_left p.rest p.some (form-single m p.whole p.rest [] tt tt q.narrow p.narrow (ap (λ l. l ++ p.rest) (sym q.same) ∙ p.same ∙ sym (append-nil (in_bytes (form_fields p.whole))))).1

  long-not : (m : Meaning) → Long bytes → FormOf bytes m → ⊥
  long-not m p q =
      nothing_left p.rest p.some (form-single p.meaning m p.rest [] tt tt p.narrow q.narrow (sym p.same ∙ q.same ∙ sym (append-nil (in_bytes (form_fields m))))).1

  form-one : (m k : Meaning) → FormOf bytes m → FormOf bytes k → m ≡ k
  form-one m k p q = (form-single m k [] [] tt tt p.narrow q.narrow (ap (λ l. l ++ []) (sym p.same ∙ q.same))).0

  -- the causes exclude each other
  form_not : (m : Meaning) → FormOf bytes m → Cut Any form_fields bytes ⊎ Long bytes → ⊥
  form_not m q (inl p) = cut-not m p q
  form_not m q (inr p) = long-not m p q

  number_not : (m : Meaning) → FormOf bytes m → BadNumber Any form_fields bytes → ⊥
  number_not m q p = bad-not [] p (form-begins m q)

  number-and-form : BadNumber Any form_fields bytes → Cut Any form_fields bytes ⊎ Long bytes → ⊥
  number-and-form p (inl q) = bad-not q.rest p (cut-begins q)
  number-and-form p (inr q) = bad-not [] p (long-begins q)

  pub packed_exact : Exact (FormOf bytes) (Cut Any form_fields bytes ⊎ Long bytes) (BadNumber Any form_fields bytes)
  packed_exact = record { one = form-one; form_not = form_not; number_not = number_not; apart = number-and-form }

  pub refuses_unread : (e : Refusal) → Unread bytes e → PackedRefuses bytes e
  unfolding Unread Fails
  refuses_unread e (inl (inl p)) = rw p.0 (refuses_form packed_exact (inl p.1))
  refuses_unread e (inl (inr p)) = rw p.0 (refuses_number packed_exact p.1)
  refuses_unread e (inr p) = rw p.0 (refuses_form packed_exact (inr p.1))
