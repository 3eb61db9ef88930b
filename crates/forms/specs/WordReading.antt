-- The word form, read into tables.
use Rattle.std.specs.Prelude.{◌≡◌, ℕ, ◌+◌, ◌*◌, ◌<◌, ◌≤◌, List, length, take}
use Rattle.syntax.specs.declared.node.Node.{Node}
use Rattle.forms.specs.declared.tables.Span.{Span}
use Rattle.forms.specs.Tables.{span_end}
use Rattle.forms.specs.Words.{apart, node_from, span_from, node_count, text_count, words_end}

-- there are as many words as the counts say
pub record Counted (words : List ℕ) (n t : ℕ) : Type 0 where
  pub nodes : n ≡ node_count words
  pub texts : t ≡ text_count words
  pub all : length words ≡ words_end words

-- the first n nodes are in the table if it has room
abbrev pub NodesCopied : List ℕ → ℕ → List Node → Type 0
NodesCopied words n table = n ≤ length table → take n table ≡ apart 6 (node_from words) 2 n

-- the first t spans from `start` on lie within the bytes, and are in the table if it has room
pub record SpansCopied (words bytes : List ℕ) (start t : ℕ) (table : List Span) : Type 0 where
  pub within : (k : ℕ) → k < t → span_end (span_from words (start + 2 * k)) ≤ length bytes
  pub held : t ≤ length table → take t table ≡ apart 2 (span_from words) start t

-- one of them does not
pub record SpanPast (words bytes : List ℕ) (start t : ℕ) : Type 0 where
  pub index : ℕ
  pub there : index < t
  pub past : length bytes < span_end (span_from words (start + 2 * index))
