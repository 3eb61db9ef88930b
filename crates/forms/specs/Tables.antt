-- What the tables of a form hold.
use Rattle.std.specs.Prelude.{ℕ, ◌+◌, ◌<◌, ◌≤◌, List, map, take, drop, slice_index_or}
use Rattle.syntax.specs.Meaning.{Meaning}
use Rattle.syntax.specs.declared.node.Node.{Node}
use Rattle.forms.specs.declared.tables.Span.{Span}
use Rattle.forms.specs.declared.tables.Tables.{Tables}

-- the bytes of a span
abbrev pub spanned : List ℕ → Span → List ℕ
spanned bytes span = take span.len (drop span.start bytes)

-- the place after it
abbrev pub span_end : Span → ℕ
span_end span = span.start + span.len

-- a node and a span of nothing
abbrev pub no_node : Node
no_node = record { kind = 0; end = 0; text = 0; mark = 0; from = 0; to = 0 }

abbrev pub no_span : Span
no_span = record { start = 0; len = 0 }

abbrev pub spanned_all : List ℕ → List Span → List (List ℕ)
spanned_all bytes spans = map (spanned bytes) spans

-- each of the first `count` spans lies within so many bytes
abbrev pub SpansWithin : List Span → ℕ → ℕ → Type 0
SpansWithin spans count size = (k : ℕ) → k < count → span_end (slice_index_or spans k no_span) ≤ size

-- the first nodes, and the texts of the first spans
abbrev pub table_meaning : Tables → List ℕ → Meaning
table_meaning tables bytes = record { nodes = take tables.counts.nodes tables.nodes; texts = spanned_all bytes (take tables.counts.texts tables.texts) }
