-- Words in a row, and the nodes and spans that they are the words of.
use Rattle.std.proofs.Common.{◌≡◌, ℕ, zero, suc, pred, ◌+◌, ◌*◌, ◌<◌, ◌≤◌, List, [], ◌∷◌, ◌++◌, length, get_or, drop, sym, refl, ap, ◌∙◌, append_assoc, append-nil, le_of_suc-le-suc, not-suc-le-zero, mul-zero, mul-suc, arith, length-append}
use Rattle.std.specs.List.{flat_map}
use Rattle.std.proofs.lemmas.List.{drop_more}
use Rattle.syntax.specs.declared.node.Node.{Node}
use Rattle.forms.specs.declared.tables.Span.{Span}
use Rattle.forms.specs.Words.{node_words, span_words, in_words, apart, node_from, span_from, node_count, text_count, nodes_end, words_end, nodes_in, spans_in}
use Rattle.forms.proofs.Codes.{same-front, same-words}

module _ {A : Type 0} (width : ℕ) (f : ℕ → A) where
  -- one place further
  next : (at i : ℕ) → at + width + width * i ≡ at + width * suc i
  next at i = omega (arith, mul-suc width i)

  start : (at : ℕ) → at ≡ at + width * 0
  start at = omega (arith, mul-zero width)

  pub length-apart : (at n : ℕ) → length (apart width f at n) ≡ n
  length-apart at zero = refl
  length-apart at (suc n) = ap suc (length-apart (at + width) n)

  pub get_or-apart : (at n i : ℕ) (d : A) → i < n → get_or (apart width f at n) i d ≡ f (at + width * i)
  get_or-apart at zero i d less = absurd (not-suc-le-zero less)
  get_or-apart at (suc n) zero d less = ap f (start at)
  get_or-apart at (suc n) (suc i) d less = get_or-apart (at + width) n i d (le_of_suc-le-suc less) ∙ ap f (next at i)

  apart-push : (at n : ℕ) → apart width f at (suc n) ≡ apart width f at n ++ f (at + width * n) ∷ []
  apart-push at zero = ap (λ k. f k ∷ []) (start at)
  apart-push at (suc n) = ap (λ l. f at ∷ l) (apart-push (at + width) n ∙ ap (λ k. apart width f (at + width) n ++ f k ∷ []) (next at n))

  pub apart_more : (at n : ℕ) → apart width f at (n + 1) ≡ apart width f at n ++ f (at + width * n) ∷ []
  apart_more at n = let e : n + 1 ≡ suc n = omega arith in ap (apart width f at) e ∙ apart-push at n

  module _ (g : A → List ℕ) (words : List ℕ) (here : (at : ℕ) → at + width ≤ length words → drop at words ≡ g (f at) ++ drop (at + width) words) where
    pub apart-stands : (at n : ℕ) → at + width * n ≤ length words → drop at words ≡ flat_map g (apart width f at n) ++ drop (at + width * n) words
    apart-stands at zero fits = ap (λ k. drop k words) (start at)
    apart-stands at (suc n) fits =
        let rest = apart-stands (at + width) n (omega (arith, next at n, fits)) ∙ ap (λ k. flat_map g (apart width f (at + width) n) ++ drop k words) (next at n) in
        here at (omega (arith, mul-suc width n, fits)) ∙ ap (λ l. g (f at) ++ l) rest ∙ sym (append_assoc (g (f at)) (flat_map g (apart width f (at + width) n)) (drop (at + width * suc n) words))

-- a node is six words, and a span two
drop-next : (xs : List ℕ) (i j : ℕ) → i < length xs → i + 1 ≡ j → drop i xs ≡ get_or xs i 0 ∷ drop j xs
drop-next xs i j less e = drop_more xs i 0 less ∙ ap (λ k. get_or xs i 0 ∷ drop k xs) e

module _ (words : List ℕ) where
  abbrev w : ℕ → ℕ
  w i = get_or words i 0

  node-here : (at : ℕ) → at + 6 ≤ length words → drop at words ≡ node_words (node_from words at) ++ drop (at + 6) words
  node-here at fits =
      drop-next words at (at + 1) (omega arith) refl
      ∙ ap (λ l. w at ∷ l) (drop-next words (at + 1) (at + 2) (omega arith) (omega arith)
      ∙ ap (λ l. w (at + 1) ∷ l) (drop-next words (at + 2) (at + 3) (omega arith) (omega arith)
      ∙ ap (λ l. w (at + 2) ∷ l) (drop-next words (at + 3) (at + 4) (omega arith) (omega arith)
      ∙ ap (λ l. w (at + 3) ∷ l) (drop-next words (at + 4) (at + 5) (omega arith) (omega arith)
      ∙ ap (λ l. w (at + 4) ∷ l) (drop-next words (at + 5) (at + 6) (omega arith) (omega arith))))))

  span-here : (at : ℕ) → at + 2 ≤ length words → drop at words ≡ span_words (span_from words at) ++ drop (at + 2) words
  span-here at fits =
      drop-next words at (at + 1) (omega arith) refl
      ∙ ap (λ l. w at ∷ l) (drop-next words (at + 1) (at + 2) (omega arith) (omega arith))

  -- as many words as the counts say are those of nodes and spans
  pub words-stand : words_end words ≤ length words → words ≡ in_words (nodes_in words) (spans_in words) ++ drop (words_end words) words
  words-stand fits =
      let xs = flat_map node_words (nodes_in words) in
      let ys = flat_map span_words (spans_in words) in
      let nodes = apart-stands 6 (node_from words) node_words words node-here 2 (node_count words) (omega arith) in
      let spans = apart-stands 2 (span_from words) span_words words span-here (nodes_end words) (text_count words) fits in
      let rest = nodes ∙ ap (λ l. xs ++ l) spans ∙ sym (append_assoc xs ys (drop (words_end words) words)) in
      drop-next words 0 1 (omega arith) refl ∙ ap (λ l. w 0 ∷ l) (drop-next words 1 2 (omega arith) refl)
      ∙ (λ i. sym (length-apart 6 (node_from words) 2 (node_count words)) i ∷ sym (length-apart 2 (span_from words) (nodes_end words) (text_count words)) i ∷ rest i)

-- a row of words is that of one list
module _ {A : Type 0} (g : A → List ℕ) (width : ℕ) (even : (a : A) → length (g a) ≡ width) where
  pub length-joined : (xs : List A) → length (flat_map g xs) ≡ width * length xs
  length-joined [] = sym (mul-zero width)
  length-joined (x ∷ xs) = omega (arith, length-append (g x) (flat_map g xs), even x, length-joined xs, mul-suc width (length xs))

  pub joined-one : ((a b : A) → g a ≡ g b → a ≡ b) → (xs ys : List A) (r s : List ℕ) → length xs ≡ length ys → flat_map g xs ++ r ≡ flat_map g ys ++ s → (xs ≡ ys) × (r ≡ s)
  joined-one one [] [] r s n e = (refl, e)
  joined-one one [] (y ∷ ys) r s n e = absurd (omega (arith, n))
  joined-one one (x ∷ xs) [] r s n e = absurd (omega (arith, n))
  joined-one one (x ∷ xs) (y ∷ ys) r s n e =
      let first = same-front (g x) (g y) (flat_map g xs ++ r) (flat_map g ys ++ s) (even x ∙ sym (even y)) (sym (append_assoc (g x) (flat_map g xs) r) ∙ e ∙ append_assoc (g y) (flat_map g ys) s) in
      let later = joined-one one xs ys r s (ap pred n) first.1 in
      (λ i. one x y first.0 i ∷ later.0 i, later.1)

same_span : (a b : Span) → span_words a ≡ span_words b → a ≡ b
same_span a b e = λ i. record { start = get_or (e i) 0 0; len = get_or (e i) 1 0 }

pub in-words-length : (xs : List Node) (ss : List Span) → length (in_words xs ss) ≡ 2 + 6 * length xs + 2 * length ss
in-words-length xs ss = omega (arith, length-append (flat_map node_words xs) (flat_map span_words ss), length-joined node_words 6 (λ _. refl) xs, length-joined span_words 2 (λ _. refl) ss)

pub in-words-one : (xs ys : List Node) (ss ts : List Span) (r s : List ℕ) → in_words xs ss ++ r ≡ in_words ys ts ++ s → (xs ≡ ys) × (ss ≡ ts) × (r ≡ s)
in-words-one xs ys ss ts r s e =
    let n : length xs ≡ length ys = ap (λ l. get_or l 0 0) e in
    let t : length ss ≡ length ts = ap (λ l. get_or l 1 0) e in
    let rows = sym (append_assoc (flat_map node_words xs) (flat_map span_words ss) r) ∙ ap (drop 2) e ∙ append_assoc (flat_map node_words ys) (flat_map span_words ts) s in
    let nodes = joined-one node_words 6 (λ _. refl) same-words xs ys (flat_map span_words ss ++ r) (flat_map span_words ts ++ s) n rows in
    let spans = joined-one span_words 2 (λ _. refl) same_span ss ts r s t nodes.1 in
    (nodes.0, spans.0, spans.1)

-- and is read so
module _ (words : List ℕ) (xs : List Node) (ss : List Span) (e : words ≡ in_words xs ss) where
  pub counted-all : length words ≡ words_end words
  counted-all =
      let n : node_count words ≡ length xs = ap (λ l. get_or l 0 0) e in
      let t : text_count words ≡ length ss = ap (λ l. get_or l 1 0) e in
      ap length e ∙ in-words-length xs ss ∙ (λ i. 2 + 6 * sym n i + 2 * sym t i)

  pub decoded : (nodes_in words ≡ xs) × (spans_in words ≡ ss)
  decoded =
      let k = in-words-one (nodes_in words) xs (spans_in words) ss (drop (words_end words) words) [] (sym (words-stand words (omega (arith, counted-all))) ∙ e ∙ sym (append-nil (in_words xs ss))) in
      (k.0, k.1)
