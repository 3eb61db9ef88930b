-- Each lawful meaning has both forms.
use Rattle.std.proofs.Common.{◌≡◌, ℕ, zero, suc, ◌+◌, ◌*◌, ◌^◌, ◌<◌, ◌≤◌, true, List, [], ◌∷◌, ◌++◌, length, get_or, take, drop, sym, refl, ap, ◌∙◌, append_assoc, le_of_suc-le-suc, not-suc-le-zero, arith, length-append}
use Rattle.std.specs.List.{flat_map, AllByRecursion}
use Rattle.std.proofs.lemmas.List.{take_at, drop_at}
use Rattle.std.proofs.ByRecursion.{All-append, All-from_get_or}
use Rattle.syntax.proofs.Lawfulness.{law-stands}
use Rattle.syntax.specs.Law.{lawful}
use Rattle.syntax.specs.Meaning.{Meaning}
use Rattle.forms.specs.declared.tables.Span.{Span}
use Rattle.forms.specs.Agreement.{Byte, Word, Sized, BothForms, OneMeaning}
use Rattle.forms.specs.Form.{in_bytes, text_fields, form_fields}
use Rattle.forms.specs.Tables.{span_end, no_span, spanned_all}
use Rattle.forms.specs.Words.{node_words, span_words, in_words, WordFormOf}
use Rattle.forms.proofs.Exactness.{opens_form}
use Rattle.forms.proofs.Sizes.{packed-bytes, node-words}
use Rattle.forms.proofs.PackedExact.{packed_exact}
use Rattle.forms.proofs.WordExact.{word_exact}

-- texts one after another
abbrev together : List (List ℕ) → List ℕ
together texts = flat_map (λ (t : List ℕ). t) texts

abbrev spread : ℕ → List (List ℕ) → List Span
spread at [] = []
spread at (t ∷ ts) = record { start = at; len = length t } ∷ spread (at + length t) ts

spread-spanned : (before : List ℕ) (at : ℕ) (ts : List (List ℕ)) → length before ≡ at → ts ≡ spanned_all (before ++ together ts) (spread at ts)
spread-spanned before at [] e = refl
spread-spanned before at (t ∷ ts) e =
    let here : t ≡ take (length t) (drop at (before ++ (t ++ together ts))) = sym (ap (take (length t)) (drop_at before (t ++ together ts) at e) ∙ take_at t (together ts) (length t) refl) in
    let later = spread-spanned (before ++ t) (at + length t) ts (omega (arith, length-append before t)) ∙ ap (λ l. spanned_all l (spread (at + length t) ts)) (append_assoc before t (together ts)) in
    λ i. here i ∷ later i

spread-within : (at : ℕ) (ts : List (List ℕ)) (k : ℕ) → k < length (spread at ts) → span_end (get_or (spread at ts) k no_span) ≤ at + length (together ts)
spread-within at [] k less = absurd (not-suc-le-zero less)
spread-within at (t ∷ ts) zero less = omega (arith, length-append t (together ts))
spread-within at (t ∷ ts) (suc k) less = omega (arith, spread-within (at + length t) ts k (le_of_suc-le-suc less), length-append t (together ts))

length-spread : (at : ℕ) (ts : List (List ℕ)) → length (spread at ts) ≡ length ts
length-spread at [] = refl
length-spread at (t ∷ ts) = ap suc (length-spread (at + length t) ts)

-- they are bytes, and not too many
together-bytes : (ts : List (List ℕ)) → AllByRecursion (AllByRecursion Byte) ts → AllByRecursion Byte (together ts)
together-bytes [] p = tt
together-bytes (t ∷ ts) p = All-append Byte t (together ts) p.0 (together-bytes ts p.1)

together-few : (ts : List (List ℕ)) → AllByRecursion (λ t. length t ≤ 255) ts → length (together ts) ≤ 255 * length ts
together-few [] p = omega arith
together-few (t ∷ ts) p = omega (arith, length-append t (together ts), p.0, together-few ts p.1)

spread-words : (at : ℕ) (ts : List (List ℕ)) → at + length (together ts) < 2 ^ 32 → AllByRecursion Word (flat_map span_words (spread at ts))
spread-words at [] p = tt
spread-words at (t ∷ ts) p = (omega (arith, p), (omega (arith, p, length-append t (together ts)), spread-words (at + length t) ts (omega (arith, p, length-append t (together ts)))))

module _ (m : Meaning) (sized : Sized m) (law : lawful m ≡ true) where
  abbrev spans : List Span
  spans = spread 0 m.texts

  abbrev words : List ℕ
  words = in_words m.nodes spans

  word-form : WordFormOf words (together m.texts) m
  word-form = record { spans = spans; same = refl; within = λ k less. omega (arith, spread-within 0 m.texts k less); texts = spread-spanned [] 0 m.texts refl }

  words-fit : AllByRecursion Word words
  words-fit =
      let stands = law-stands m law in
      let short = All-from_get_or (λ t. length t ≤ 255) m.texts [] stands.texts.short in
      let few : length (together m.texts) < 2 ^ 32 = omega (arith, together-few m.texts short, stands.few_texts) in (
        sized.numbers.0,
        (
          omega (arith, sized.numbers.1.0, length-spread 0 m.texts),
          All-append Word (flat_map node_words m.nodes) (flat_map span_words spans) (node-words m.nodes (flat_map text_fields m.texts) sized.numbers.1.1) (spread-words 0 m.texts (omega (arith, few))),
        ),
      )

  pub both_forms : BothForms m
  both_forms = record {
    packed = in_bytes (form_fields m);
    words = words;
    bytes = together m.texts;
    are_bytes = (packed-bytes m sized, together-bytes m.texts sized.bytes);
    are_words = words-fit;
    packed_opens = opens_form (packed_exact (in_bytes (form_fields m))) m (record { narrow = sized.numbers; same = refl }) law;
    words_open = opens_form (word_exact words (together m.texts)) m word-form law;
  }

pub one-meaning : OneMeaning
one-meaning = record { both = both_forms; equal = λ packed words bytes m k l p q opens also. sym (opens.only m p) ∙ also.only m q }
