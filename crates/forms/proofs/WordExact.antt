-- The word form is one thing, and neither cut short nor too long nor one with a text outside its bytes.
use Rattle.std.proofs.Common.{◌≡◌, ℕ, zero, suc, ◌+◌, ◌-◌, ◌*◌, ◌<◌, ◌≤◌, true, List, [], ◌∷◌, ◌++◌, length, get_or, drop, replicate, sym, refl, ap, ◌∙◌, subst, inl, inr, append-nil, arith, length-append, length-drop}
use Rattle.std.proofs.lemmas.List.{length-replicate, drop_all}
use Rattle.syntax.specs.Law.{lawful}
use Rattle.syntax.specs.Meaning.{Meaning}
use Rattle.syntax.specs.declared.refusal.Refusal.{Refusal}
use Rattle.syntax.specs.declared.refusal.Refusal.TheVariants.{Form}
use Rattle.forms.specs.Tables.{SpansWithin, span_end, no_span, spanned_all}
use Rattle.forms.specs.Words.{in_words, WordFormOf, span_from, node_count, text_count, nodes_end, words_end, nodes_in, spans_in, word_meaning}
use Rattle.forms.specs.WordOpening.{WordsCut, WordsLong, Outside, BadWords, WordOpens, WordRefuses}
use Rattle.forms.proofs.Exactness.{Exact, refuses_form, opens_form}
use Rattle.forms.proofs.PackedExact.{nothing_left}
use Rattle.forms.proofs.WordRows.{length-apart, in-words-one, counted-all, decoded, words-stand}

module _ (words bytes : List ℕ) where
  -- what the words mean
  pub word_form-one : (m : Meaning) → WordFormOf words bytes m → m ≡ word_meaning words bytes
  word_form-one m p =
      let d = decoded words m.nodes p.spans p.same in
      λ i. record { nodes = sym d.0 i; texts = (p.texts ∙ ap (spanned_all bytes) (sym d.1)) i }

  -- what reading it needs
  pub word_whole : (m : Meaning) → WordFormOf words bytes m → length words ≡ words_end words
  word_whole m p = counted-all words m.nodes p.spans p.same

  pub word_within : (m : Meaning) → WordFormOf words bytes m → SpansWithin (spans_in words) (text_count words) (length bytes)
  word_within m p k less =
      let same : p.spans ≡ spans_in words = sym (decoded words m.nodes p.spans p.same).1 in
      subst (λ l. span_end (get_or l k no_span) ≤ length bytes) same (p.within k (omega (arith, less, ap length same, length-apart 2 (span_from words) (nodes_end words) (text_count words))))

  cut-not : (m : Meaning) → WordFormOf words bytes m → WordsCut words → ⊥
  cut-not m p q =
      nothing_left q.rest q.some (in-words-one m.nodes q.nodes p.spans q.spans q.rest [] (ap (λ l. l ++ q.rest) (sym p.same) ∙ q.same ∙ sym (append-nil (in_words q.nodes q.spans)))).2

  long-not : (m : Meaning) → WordFormOf words bytes m → WordsLong words → ⊥
  long-not m p q =
      nothing_left q.rest q.some (in-words-one q.nodes m.nodes q.spans p.spans q.rest [] (sym q.same ∙ p.same ∙ sym (append-nil (in_words m.nodes p.spans)))).2

  outside-not : (m : Meaning) → WordFormOf words bytes m → Outside words bytes → ⊥
  outside-not m p q =
      let same : p.spans ≡ q.spans = sym (decoded words m.nodes p.spans p.same).1 ∙ (decoded words q.nodes q.spans q.same).1 in
      let within : SpansWithin q.spans (length q.spans) (length bytes) = subst (λ l. SpansWithin l (length l) (length bytes)) same p.within in
      omega (arith, within q.index q.there, q.past)

  bad-not : (m : Meaning) → WordFormOf words bytes m → BadWords words bytes → ⊥
  bad-not m p (inl q) = cut-not m p q
  bad-not m p (inr (inl q)) = long-not m p q
  bad-not m p (inr (inr q)) = outside-not m p q

  pub word_exact : Exact (WordFormOf words bytes) (BadWords words bytes) ⊥
  word_exact = record { one = λ m k p q. word_form-one m p ∙ sym (word_form-one k q); form_not = bad-not; number_not = λ _ _ e. e; apart = λ e _. absurd e }

  pub refuses_bad : (e : Refusal) → (e ≡ Form) × BadWords words bytes → WordRefuses words bytes e
  refuses_bad e p = rw p.0 (refuses_form word_exact p.1)

  -- it opens as what the words mean
  module _ (m : Meaning) (p : WordFormOf words bytes m) (law : lawful m ≡ true) where
    pub word_ruled : lawful (word_meaning words bytes) ≡ true
    word_ruled = ap lawful (sym (word_form-one m p)) ∙ law

    pub word_opened : WordOpens words bytes (word_meaning words bytes)
    word_opened = opens_form word_exact (word_meaning words bytes) (subst (WordFormOf words bytes) (word_form-one m p) p) word_ruled

-- zeros after words make a row of what begins so
zeros_get : (k i : ℕ) → ◌≡◌ {A = ℕ} (get_or (replicate k 0) i 0) 0
zeros_get zero i = refl
zeros_get (suc k) zero = refl
zeros_get (suc k) (suc i) = zeros_get k i

padded_get : (words : List ℕ) (k i : ℕ) → get_or (words ++ replicate k 0) i 0 ≡ get_or words i 0
padded_get [] k i = zeros_get k i
padded_get (x ∷ words) k zero = refl
padded_get (x ∷ words) k (suc i) = padded_get words k i

module _ (words : List ℕ) where
  pub words_cut : length words < words_end words → WordsCut words
  words_cut less =
      let missing : List ℕ = replicate (words_end words - length words) 0 in
      let all : List ℕ = words ++ missing in
      let n : node_count all ≡ node_count words = padded_get words (words_end words - length words) 0 in
      let t : text_count all ≡ text_count words = padded_get words (words_end words - length words) 1 in
      let size : length all ≡ words_end words = omega (arith, length-append words missing, length-replicate {A = ℕ} (words_end words - length words) 0) in
      let end : words_end all ≡ words_end words = λ i. 2 + 6 * n i + 2 * t i in
      record {
        nodes = nodes_in all;
        spans = spans_in all;
        rest = missing;
        some = omega (arith, length-replicate {A = ℕ} (words_end words - length words) 0);
        same = words-stand all (omega (arith, size, end)) ∙ ap (λ l. in_words (nodes_in all) (spans_in all) ++ l) (drop_all (words_end all) all (omega (arith, size, end))) ∙ append-nil (in_words (nodes_in all) (spans_in all));
      }

  pub words_long : words_end words < length words → WordsLong words
  words_long less = record { nodes = nodes_in words; spans = spans_in words; rest = drop (words_end words) words; some = omega (arith, length-drop (words_end words) words); same = words-stand words (omega arith) }

  pub words-whole : length words ≡ words_end words → words ≡ in_words (nodes_in words) (spans_in words)
  words-whole size = words-stand words (omega arith) ∙ ap (λ l. in_words (nodes_in words) (spans_in words) ++ l) (drop_all (words_end words) words (omega arith)) ∙ append-nil (in_words (nodes_in words) (spans_in words))
