-- A thing that begins with another: why none stands.
use Rattle.std.proofs.Common.{◌≡◌, ℕ, List, ◌∷◌, ◌++◌, sym, ap, ◌∙◌, subst, inl, inr, append_assoc, arith, length-append}
use Rattle.syntax.specs.declared.refusal.Refusal.{Refusal}
use Rattle.forms.specs.declared.number.NumberFault.{NumberFault}
use Rattle.forms.specs.declared.number.NumberFault.TheVariants.{TooWide, NotShortest}
use Rattle.forms.specs.Form.{Field, number, field_bytes, in_bytes, Narrow}
use Rattle.forms.specs.Reading.{Cut, Stray, Fails}
use Rattle.std.proofs.lemmas.Grind.{flat_map-append}
use Rattle.forms.proofs.Fields.{bytes-append, narrow-append}

-- things w that begin with things a
module _ {A W : Type 0} (P : A → Type 0) (f : A → List Field) (Q : W → Type 0) (g : W → List Field)
    (extend : (a : A) → P a → (w : W) × (tail : List Field) × Q w × Narrow tail × (g w ≡ f a ++ tail)) where
  cut-first : (bs : List ℕ) → Cut P f bs → Cut Q g bs
  cut-first bs c =
      let k = extend c.whole c.kept in
      record {
        whole = k.0;
        rest = c.rest ++ in_bytes k.1;
        kept = k.2;
        narrow = subst Narrow (sym k.4) (narrow-append (f c.whole) k.1 c.narrow k.3);
        some = omega (arith, length-append c.rest (in_bytes k.1), c.some);
        same = sym (append_assoc bs c.rest (in_bytes k.1)) ∙ ap (λ l. l ++ in_bytes k.1) c.same ∙ sym (flat_map-append field_bytes (f c.whole) k.1) ∙ ap in_bytes (sym k.4);
      }

  stray-first : (bs : List ℕ) (fault : NumberFault) → Stray P f bs fault → Stray Q g bs fault
  stray-first bs fault c =
      let k = extend c.whole c.kept in
      record {
        whole = k.0;
        before = c.before;
        value = c.value;
        after = c.after ++ k.1;
        bad = c.bad;
        kept = k.2;
        narrow = subst Narrow (sym k.4) (narrow-append (f c.whole) k.1 c.narrow k.3);
        there = k.4 ∙ ap (λ l. l ++ k.1) c.there ∙ append_assoc c.before (number c.value ∷ c.after) k.1;
        same = c.same;
        faulty = c.faulty;
      }

  pub fails_first : (bs : List ℕ) (e : Refusal) → Fails P f bs e → Fails Q g bs e
  unfolding Fails
  fails_first bs e (inl c) = inl (c.0, cut-first bs c.1)
  fails_first bs e (inr (z, inl c)) = inr (z, inl (stray-first bs TooWide c))
  fails_first bs e (inr (z, inr c)) = inr (z, inr (stray-first bs NotShortest c))

-- things w that are a thing a and then a thing b, where a is read
module _ {A B W : Type 0} (f : A → List Field) (R : B → Type 0) (h : B → List Field) (Q : W → Type 0) (g : W → List Field)
    (a : A) (a-narrow : Narrow (f a)) (extend : (b : B) → R b → (w : W) × Q w × (g w ≡ f a ++ h b))
    (bs rest : List ℕ) (read : bs ≡ in_bytes (f a) ++ rest) where
  narrow_both : (b : B) (w : W) → Narrow (h b) → g w ≡ f a ++ h b → Narrow (g w)
  narrow_both b w n e = subst Narrow (sym e) (narrow-append (f a) (h b) a-narrow n)

  cut-after : Cut R h rest → Cut Q g bs
  cut-after c =
      let k = extend c.whole c.kept in
      record {
        whole = k.0;
        rest = c.rest;
        kept = k.1;
        narrow = narrow_both c.whole k.0 c.narrow k.2;
        some = c.some;
        same = ap (λ l. l ++ c.rest) read ∙ append_assoc (in_bytes (f a)) rest c.rest ∙ ap (λ l. in_bytes (f a) ++ l) c.same ∙ sym (flat_map-append field_bytes (f a) (h c.whole)) ∙ ap in_bytes (sym k.2);
      }

  stray-after : (fault : NumberFault) → Stray R h rest fault → Stray Q g bs fault
  stray-after fault c =
      let k = extend c.whole c.kept in
      record {
        whole = k.0;
        before = f a ++ c.before;
        value = c.value;
        after = c.after;
        bad = c.bad;
        kept = k.1;
        narrow = narrow_both c.whole k.0 c.narrow k.2;
        there = k.2 ∙ ap (λ l. f a ++ l) c.there ∙ sym (append_assoc (f a) c.before (number c.value ∷ c.after));
        same = read ∙ ap (λ l. in_bytes (f a) ++ l) c.same ∙ sym (bytes-append (f a) c.before c.bad);
        faulty = c.faulty;
      }

  pub fails_after : (e : Refusal) → Fails R h rest e → Fails Q g bs e
  unfolding Fails
  fails_after e (inl c) = inl (c.0, cut-after c.1)
  fails_after e (inr (z, inl c)) = inr (z, inl (stray-after TooWide c))
  fails_after e (inr (z, inr c)) = inr (z, inr (stray-after NotShortest c))
