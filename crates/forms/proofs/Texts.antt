-- Texts by their spans: their lengths, and whether they are equal.
use Rattle.std.proofs.Common.{◌≡◌, ℕ, suc, ◌+◌, ◌<◌, ◌≤◌, true, false, not, ◌&&◌, ◌||◌, leb, List, [], ◌∷◌, length, get_or, map, take, drop, sym, refl, ap, ◌∙◌, subst, arith, length-drop, length-take}
use Rattle.std.specs.List.{list_any, range_with_len}
use Rattle.std.specs.Str.{bytes_eq}
use Rattle.std.proofs.lemmas.List.{get_or-take, get_or_default, same_lists}
use Rattle.std.proofs.lemmas.List.FromFn.{get_or-map-range_with_len, length-map-range_with_len}
use Rattle.std.proofs.lemmas.Bool.{and_left, and_right, le-leb, lt-leb}
use Rattle.forms.specs.declared.tables.Span.{Span}
use Rattle.syntax.specs.Law.{among, is_text, lawful_texts}
use Rattle.forms.specs.Tables.{SpansWithin, span_end, no_span, spanned, spanned_all}

pub within-front : (spans : List Span) (t size : ℕ) → t ≤ length spans → SpansWithin spans t size → SpansWithin (take t spans) (length (take t spans)) size
within-front spans t size fits h k less =
    let below : k < t = omega (arith, length-take t spans) in
    rw (get_or-take t spans k no_span below) (h k below)

module _ (bytes : List ℕ) where
  pub spanned-length : (span : Span) → span.start + span.len ≤ length bytes → length (spanned bytes span) ≡ span.len
  spanned-length span fits = omega (arith, length-take span.len (drop span.start bytes), length-drop span.start bytes)

  -- one of the spans lies within the bytes
  pub one_within : (spans : List Span) (k : ℕ) (span : Span) → SpansWithin spans (length spans) (length bytes) → (k < length spans) × (span ≡ get_or spans k span) → span_end span ≤ length bytes
  one_within spans k span within h = subst (λ s. span_end s ≤ length bytes) (get_or_default spans k no_span span h.0 ∙ sym h.1) (within k h.0)

  -- a search among texts by their spans
  pub any_among : (t : List ℕ) (spans : List Span) → list_any (λ span. bytes_eq t (spanned bytes span)) spans ≡ among t (spanned_all bytes spans)
  any_among t [] = refl
  any_among t (span ∷ spans) = ap (λ b. bytes_eq t (spanned bytes span) || b) (any_among t spans)

  -- the same by their places
  at_places : (t : List ℕ) (spans : List Span) (ks : List ℕ) → list_any (λ k. bytes_eq t (spanned bytes (get_or spans k no_span))) ks ≡ list_any (λ span. bytes_eq t (spanned bytes span)) (map (λ k. get_or spans k no_span) ks)
  at_places t spans [] = refl
  at_places t spans (k ∷ ks) = ap (λ b. bytes_eq t (spanned bytes (get_or spans k no_span)) || b) (at_places t spans ks)

  placed : (spans : List Span) → map (λ k. get_or spans k no_span) (range_with_len 0 (length spans)) ≡ spans
  placed spans =
      let n = length-map-range_with_len (λ k. get_or spans k no_span) 0 (length spans) in
      same_lists _ spans n
      (λ k d less. let low : k < length spans = omega (arith, n) in get_or-map-range_with_len (λ j. get_or spans j no_span) 0 (length spans) k k d low (omega arith) ∙ get_or_default spans k no_span d low)

  pub any_placed : (t : List ℕ) (spans : List Span) → list_any (λ k. bytes_eq t (spanned bytes (get_or spans k no_span))) (range_with_len 0 (length spans)) ≡ among t (spanned_all bytes spans)
  any_placed t spans = at_places t spans (range_with_len 0 (length spans)) ∙ ap (list_any (λ span. bytes_eq t (spanned bytes span))) (placed spans) ∙ any_among t spans

-- a text by its length
module _ (t : List ℕ) (later : List (List ℕ)) where
  pub text-none : length t ≡ 0 → is_text t later ≡ false
  unfolding is_text
  text-none z = and_left (leb 1 (length t)) _ (lt-leb 1 _ (omega arith))

  pub text_long : 255 < length t → is_text t later ≡ false
  unfolding is_text
  text_long long = and_right (leb 1 (length t)) _ (and_left (leb (length t) 255) _ (lt-leb _ 255 long))

  pub text-fits : (length t ≡ 0 → ⊥) → length t ≤ 255 → is_text t later ≡ not (among t later)
  unfolding is_text
  text-fits some few = rw (le-leb 1 (length t) (omega (arith, some)), le-leb (length t) 255 few) refl

-- texts, one by one
module _ (bytes : List ℕ) (rest : List Span) (span : Span) (later : List Span) (parts : rest ≡ span ∷ later) where
  pub within_first : SpansWithin rest (length rest) (length bytes) → span_end span ≤ length bytes
  within_first h = let k : SpansWithin (span ∷ later) (length (span ∷ later)) (length bytes) = subst (λ spans. SpansWithin spans (length spans) (length bytes)) parts h in k 0 (omega arith)

  pub within_later : SpansWithin rest (length rest) (length bytes) → SpansWithin later (length later) (length bytes)
  within_later h k less = let j : SpansWithin (span ∷ later) (length (span ∷ later)) (length bytes) = subst (λ spans. SpansWithin spans (length spans) (length bytes)) parts h in j (suc k) (omega arith)

  module _ (t : List ℕ) (same : t ≡ spanned bytes span) where
    -- the first text decides, or those after it
    first_text : lawful_texts (spanned_all bytes rest) ≡ (is_text t (spanned_all bytes later) && lawful_texts (spanned_all bytes later))
    first_text = ap (λ spans. lawful_texts (spanned_all bytes spans)) parts ∙ ap (λ u. is_text u (spanned_all bytes later) && lawful_texts (spanned_all bytes later)) (sym same)

    pub texts-bad : false ≡ is_text t (spanned_all bytes later) → lawful_texts (spanned_all bytes rest) ≡ false
    texts-bad bad = first_text ∙ and_left (is_text t (spanned_all bytes later)) _ (sym bad)

    pub texts_more : true ≡ is_text t (spanned_all bytes later) → lawful_texts (spanned_all bytes rest) ≡ lawful_texts (spanned_all bytes later)
    texts_more good = first_text ∙ ap (λ b. b && lawful_texts (spanned_all bytes later)) (sym good)

pub texts-none : (bytes : List ℕ) (spans : List Span) → length spans ≡ 0 → lawful_texts (spanned_all bytes spans) ≡ true
texts-none bytes [] none = refl
texts-none bytes (span ∷ spans) none = absurd (omega arith)
