-- The word form of a meaning: numbers in a row of words, texts by place and length in the bytes beside it.
use Rattle.std.specs.Prelude.{◌≡◌, ℕ, zero, suc, ◌+◌, ◌*◌, List, [], ◌∷◌, ◌++◌, length, slice_index}
use Rattle.std.specs.List.{flat_map}
use Rattle.syntax.specs.Meaning.{Meaning}
use Rattle.syntax.specs.declared.node.Node.{Node}
use Rattle.forms.specs.declared.tables.Span.{Span}
use Rattle.forms.specs.Tables.{SpansWithin, spanned_all}

abbrev pub node_words : Node → List ℕ
node_words x = x.kind ∷ x.end ∷ x.text ∷ x.mark ∷ x.from ∷ x.to ∷ []

abbrev pub span_words : Span → List ℕ
span_words span = span.start ∷ span.len ∷ []

abbrev pub in_words : List Node → List Span → List ℕ
in_words nodes spans = length nodes ∷ length spans ∷ (flat_map node_words nodes ++ flat_map span_words spans)

-- words and bytes are the word form of m
pub record WordFormOf (words bytes : List ℕ) (m : Meaning) : Type 0 where
  pub spans : List Span
  pub same : words ≡ in_words m.nodes spans
  pub within : SpansWithin spans (length spans) (length bytes)
  pub texts : m.texts ≡ spanned_all bytes spans

-- n things that stand `width` apart, the first at `at`
abbrev pub apart : {A : Type 0} → ℕ → (ℕ → A) → ℕ → ℕ → List A
apart width f at zero = []
apart width f at (suc n) = f at ∷ apart width f (at + width) n

abbrev pub node_from : List ℕ → ℕ → Node
node_from words at = record { kind = slice_index words at; end = slice_index words (at + 1); text = slice_index words (at + 2); mark = slice_index words (at + 3); from = slice_index words (at + 4); to = slice_index words (at + 5) }

abbrev pub span_from : List ℕ → ℕ → Span
span_from words at = record { start = slice_index words at; len = slice_index words (at + 1) }

-- the counts, and where the nodes end and the spans
abbrev pub node_count : List ℕ → ℕ
node_count words = slice_index words 0

abbrev pub text_count : List ℕ → ℕ
text_count words = slice_index words 1

abbrev pub nodes_end : List ℕ → ℕ
nodes_end words = 2 + 6 * node_count words

abbrev pub words_end : List ℕ → ℕ
words_end words = nodes_end words + 2 * text_count words

abbrev pub nodes_in : List ℕ → List Node
nodes_in words = apart 6 (node_from words) 2 (node_count words)

abbrev pub spans_in : List ℕ → List Span
spans_in words = apart 2 (span_from words) (nodes_end words) (text_count words)

abbrev pub word_meaning : List ℕ → List ℕ → Meaning
word_meaning words bytes = record { nodes = nodes_in words; texts = spanned_all bytes (spans_in words) }
