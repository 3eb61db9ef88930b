-- What stands at the front of bytes is one thing, and none where a number is bad.
use Rattle.std.proofs.Common.{◌≡◌, ℕ, ◌⊎◌, List, [], ◌∷◌, ◌++◌, sym, refl, ap, ◌∙◌, subst, inl, inr, ⊎_elim, arith}
use Rattle.forms.specs.declared.number.NumberFault.{NumberFault}
use Rattle.forms.specs.declared.number.NumberFault.TheVariants.{CutShort}
use Rattle.forms.specs.Numbers.{NumberFaulty}
use Rattle.forms.specs.Form.{Field, number, in_bytes, Narrow}
use Rattle.forms.proofs.Fields.{bytes-append, narrow_left, narrow_right}

-- one thing
abbrev pub Single : {A : Type 0} → (A → Type 0) → (A → List Field) → Type 0
Single {A = A} P f = (a b : A) (r s : List ℕ) → P a → P b → Narrow (f a) → Narrow (f b) → in_bytes (f a) ++ r ≡ in_bytes (f b) ++ s → (a ≡ b) × (r ≡ s)

-- no thing b where a thing a has a number and the bytes have none
abbrev pub Firm : {A : Type 0} → (A → Type 0) → (A → List Field) → Type 0
Firm {A = A} P f = (a b : A) (before after : List Field) (v : ℕ) (bad r s : List ℕ) (fault : NumberFault) → P a → P b → Narrow (f a) → Narrow (f b) → (fault ≡ CutShort → ⊥) → NumberFaulty bad fault → f a ≡ before ++ number v ∷ after → in_bytes before ++ (bad ++ r) ≡ in_bytes (f b) ++ s → ⊥

pub no_fields : (x : Field) (before after : List Field) → [] ≡ before ++ x ∷ after → ⊥
no_fields x [] after e = let never : ◌≡◌ {A = ℕ} 0 1 = cc in omega arith
no_fields x (y ∷ before) after e = let never : ◌≡◌ {A = ℕ} 0 1 = cc in omega arith

-- a field of two lists is in the first or in the second
pub field_in : (x : Field) (fs gs before after : List Field) → fs ++ gs ≡ before ++ x ∷ after
    → ((rest : List Field) × (fs ≡ before ++ x ∷ rest)) ⊎ ((front : List Field) × (before ≡ fs ++ front) × (gs ≡ front ++ x ∷ after))
field_in x [] gs before after e = inr (before, refl, e)
field_in x (f ∷ fs) gs [] after e = let first : f ≡ x = cc in inl (fs, ap (λ y. y ∷ fs) first)
field_in x (f ∷ fs) gs (y ∷ before) after e =
    let first : f ≡ y = cc in
    let others : fs ++ gs ≡ before ++ x ∷ after = cc in
    ⊎_elim
    (λ k. inl (k.0, λ i. first i ∷ k.1 i))
    (λ k. inr (k.0, (λ i. sym first i ∷ k.1 i), k.2))
    (field_in x fs gs before after others)

-- a thing w that is a thing a and then a thing b
module _ {A B W : Type 0} (P : A → Type 0) (f : A → List Field) (R : A → B → Type 0) (h : B → List Field) (Q : W → Type 0) (g : W → List Field)
    (divide : (w : W) → Q w → (a : A) × (b : B) × P a × R a b × (g w ≡ f a ++ h b))
    (single : Single P f) (firm : Firm P f) (later : (a : A) → P a → Firm (R a) h) where
  pub firm_pair : Firm Q g
  firm_pair w u before after v bad r s fault w_kept u-kept w-narrow u-narrow other faulty there same =
      let x = divide w w_kept in
      let y = divide u u-kept in
      let x-narrow : Narrow (f x.0 ++ h x.1) = subst Narrow x.4 w-narrow in
      let y-narrow : Narrow (f y.0 ++ h y.1) = subst Narrow y.4 u-narrow in
      let y-same : in_bytes before ++ (bad ++ r) ≡ in_bytes (f y.0) ++ (in_bytes (h y.1) ++ s) = same ∙ ap (λ l. in_bytes l ++ s) y.4 ∙ bytes-append (f y.0) (h y.1) s in
      ⊎_elim
      (λ k. firm x.0 y.0 before k.0 v bad r (in_bytes (h y.1) ++ s) fault x.2 y.2 (narrow_left (f x.0) (h x.1) x-narrow) (narrow_left (f y.0) (h y.1) y-narrow) other faulty k.1 y-same)
      (λ k.
      let both = single x.0 y.0 (in_bytes k.0 ++ (bad ++ r)) (in_bytes (h y.1) ++ s) x.2 y.2 (narrow_left (f x.0) (h x.1) x-narrow) (narrow_left (f y.0) (h y.1) y-narrow)
      (sym (bytes-append (f x.0) k.0 (bad ++ r)) ∙ ap (λ l. in_bytes l ++ (bad ++ r)) (sym k.1) ∙ y-same) in
      later x.0 x.2 x.1 y.1 k.0 after v bad r s fault x.3 (subst (λ a. R a y.1) (sym both.0) y.3) (narrow_right (f x.0) (h x.1) x-narrow) (narrow_right (f y.0) (h y.1) y-narrow) other faulty k.2 both.1)
      (field_in (number v) (f x.0) (h x.1) before after (sym x.4 ∙ there))
