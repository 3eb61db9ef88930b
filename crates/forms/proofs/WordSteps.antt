-- The word form goes into tables, one by one.
use Rattle.std.proofs.Common.{◌≡◌, ℕ, ◌+◌, ◌*◌, ◌<◌, ◌≤◌, ◌⊎◌, List, [], ◌∷◌, ◌++◌, length, get_or, take, set, Some, None, sym, refl, ap, ◌∙◌, subst, inl, inr, ⊎_elim, arith, below_more}
use Rattle.std.proofs.lemmas.List.{length-set, length-map, take_more_set, get_or-take}
use Rattle.std.proofs.lemmas.Bool.{cases_order}
use Rattle.syntax.specs.Meaning.{at}
use Rattle.syntax.specs.declared.node.Node.{Node}
use Rattle.forms.specs.declared.tables.Span.{Span}
use Rattle.forms.specs.Reading.{FormRead}
use Rattle.forms.specs.Tables.{span_end, no_span, spanned, spanned_all}
use Rattle.forms.specs.WordOpening.{WordsCut, WordsLong, Outside}
use Rattle.forms.specs.WordReading.{Counted, NodesCopied, SpansCopied, SpanPast}
use Rattle.forms.specs.Words.{WordFormOf, apart, node_from, span_from, node_count, text_count, nodes_end, words_end, nodes_in, spans_in, word_meaning}
use Rattle.syntax.proofs.Fronts.{at_in, at-past, map-at_in, map-at-past}
use Rattle.forms.proofs.WordRows.{length-apart, get_or-apart, apart_more}
use Rattle.forms.proofs.WordExact.{words_cut, words_long, words-whole}

-- what stands at a number
module _ (words : List ℕ) where
  pub node_at_lem : (i : ℕ) → i < node_count words → at (nodes_in words) i ≡ Some (node_from words (2 + 6 * i))
  node_at_lem i less = at_in i (nodes_in words) (node_from words 0) (omega (arith, length-apart 6 (node_from words) 2 (node_count words))) ∙ ap Some (get_or-apart 6 (node_from words) 2 (node_count words) i (node_from words 0) less)

  pub node-past : (i : ℕ) → node_count words ≤ i → at (nodes_in words) i ≡ None
  node-past i past = at-past i (nodes_in words) (omega (arith, length-apart 6 (node_from words) 2 (node_count words)))

  -- the span of a text
  pub span_in : (k : ℕ) → k < text_count words → get_or (spans_in words) k no_span ≡ span_from words (nodes_end words + 2 * k)
  span_in k less = get_or-apart 2 (span_from words) (nodes_end words) (text_count words) k no_span less

  module _ (bytes : List ℕ) where
    pub text_at_lem : (k : ℕ) → k < text_count words → at (spanned_all bytes (spans_in words)) k ≡ Some (spanned bytes (span_from words (nodes_end words + 2 * k)))
    text_at_lem k less = map-at_in (spanned bytes) k (spans_in words) no_span (omega (arith, length-apart 2 (span_from words) (nodes_end words) (text_count words))) ∙ ap (λ s. Some (spanned bytes s)) (span_in k less)

    pub text-past : (k : ℕ) → text_count words ≤ k → at (spanned_all bytes (spans_in words)) k ≡ None
    text-past k past = map-at-past (spanned bytes) k (spans_in words) (omega (arith, length-apart 2 (span_from words) (nodes_end words) (text_count words)))

module _ (words : List ℕ) where
  pub other_count : (length words ≡ words_end words → ⊥) → WordsCut words ⊎ WordsLong words
  other_count other = ⊎_elim (λ same. absurd (other same)) (⊎_elim (λ less. inl (words_cut words less)) (λ more. inr (words_long words more))) (cases_order (length words) (words_end words))

  pub copied_more : (i : ℕ) (table : List Node) (x : Node) → NodesCopied words i table → x ≡ node_from words (2 + 6 * i) → NodesCopied words (i + 1) (set table i x)
  copied_more i table x p e room =
      let here : i < length table = omega (arith, length-set table i x, room) in
      take_more_set table i x here ∙ (λ k. p (omega arith) k ++ e k ∷ []) ∙ sym (apart_more 6 (node_from words) 2 i)

  module _ (bytes : List ℕ) where
    pub spans_more : (start i : ℕ) (table : List Span) (span : Span) → SpansCopied words bytes start i table → span ≡ span_from words (start + 2 * i) → span_end span ≤ length bytes → SpansCopied words bytes start (i + 1) (set table i span)
    spans_more start i table span p e fits = record {
      within = below_more (λ k. span_end (span_from words (start + 2 * k)) ≤ length bytes) i p.within (subst (λ s. span_end s ≤ length bytes) e fits);
      held = λ room.
          let here : i < length table = omega (arith, length-set table i span, room) in
          take_more_set table i span here ∙ (λ k. p.held (omega arith) k ++ e k ∷ []) ∙ sym (apart_more 2 (span_from words) start i);
    }

    module _ (n t : ℕ) (counted : Counted words n t) where
      start_is : 2 + 6 * n ≡ nodes_end words
      start_is = ap (λ k. 2 + 6 * k) counted.nodes

      pub outside : SpanPast words bytes (2 + 6 * n) t → Outside words bytes
      outside p =
          let there : p.index < text_count words = omega (arith, p.there, counted.texts) in
          let same : span_from words (2 + 6 * n + 2 * p.index) ≡ get_or (spans_in words) p.index no_span = ap (λ k. span_from words (k + 2 * p.index)) start_is ∙ sym (span_in words p.index there) in
          record {
            nodes = nodes_in words;
            spans = spans_in words;
            index = p.index;
            same = words-whole words counted.all;
            there = omega (arith, there, length-apart 2 (span_from words) (nodes_end words) (text_count words));
            past = subst (λ s. length bytes < span_end s) same p.past;
          }

      pub whole_words : (nodes : List Node) (spans : List Span) → NodesCopied words n nodes → SpansCopied words bytes (2 + 6 * n) t spans → (room : (length nodes ≡ 4096) × (length spans ≡ 1024)) → FormRead (WordFormOf words bytes) bytes (record { nodes = nodes; texts = spans; counts = record { nodes = n; texts = t }; room = room })
      whole_words nodes spans p q room =
          let within : (k : ℕ) → k < text_count words → span_end (get_or (spans_in words) k no_span) ≤ length bytes =
          λ k less. subst (λ s. span_end s ≤ length bytes) (ap (λ j. span_from words (j + 2 * k)) start_is ∙ sym (span_in words k less)) (q.within k (omega (arith, counted.texts))) in
          let size = length-apart 2 (span_from words) (nodes_end words) (text_count words) in
          let held : t ≤ length spans → take t spans ≡ spans_in words = λ fits. q.held fits ∙ (λ i. apart 2 (span_from words) (start_is i) (counted.texts i)) in
          record {
            meaning = word_meaning words bytes;
            form = record { spans = spans_in words; same = words-whole words counted.all; within = λ k less. within k (omega (arith, size)); texts = refl };
            node_count = length-apart 6 (node_from words) 2 (node_count words) ∙ sym counted.nodes;
            text_count = length-map (spans_in words) _ ∙ size ∙ sym counted.texts;
            nodes_held = λ fits. p fits ∙ ap (apart 6 (node_from words) 2) counted.nodes;
            texts_held = λ fits. ap (spanned_all bytes) (held fits);
            within = λ fits k less. subst (λ s. span_end s ≤ length bytes) (ap (λ l. get_or l k no_span) (sym (held fits)) ∙ get_or-take t spans k no_span less) (within k (omega (arith, counted.texts)));
          }
