-- What opening the word form answers.
use Rattle.std.specs.Prelude.{◌≡◌, ℕ, ◌<◌, ◌⊎◌, List, ◌++◌, length, slice_index_or}
use Rattle.syntax.specs.Meaning.{Meaning}
use Rattle.syntax.specs.declared.node.Node.{Node}
use Rattle.syntax.specs.declared.refusal.Refusal.{Refusal}
use Rattle.forms.specs.declared.tables.Span.{Span}
use Rattle.forms.specs.Tables.{span_end, no_span}
use Rattle.forms.specs.Words.{in_words, WordFormOf}
use Rattle.forms.specs.Opening.{CauseOf, Opens, Refuses}

-- the words end before a row that begins so
pub record WordsCut (words : List ℕ) : Type 0 where
  pub nodes : List Node
  pub spans : List Span
  pub rest : List ℕ
  pub some : 0 < length rest
  pub same : words ++ rest ≡ in_words nodes spans

-- words come after a row
pub record WordsLong (words : List ℕ) : Type 0 where
  pub nodes : List Node
  pub spans : List Span
  pub rest : List ℕ
  pub some : 0 < length rest
  pub same : words ≡ in_words nodes spans ++ rest

-- a text lies outside its bytes
pub record Outside (words bytes : List ℕ) : Type 0 where
  pub nodes : List Node
  pub spans : List Span
  pub index : ℕ
  pub same : words ≡ in_words nodes spans
  pub there : index < length spans
  pub past : length bytes < span_end (slice_index_or spans index no_span)

abbrev pub BadWords : List ℕ → List ℕ → Type 0
BadWords words bytes = WordsCut words ⊎ (WordsLong words ⊎ Outside words bytes)

-- a word is always a number, so 2 has no cause
abbrev pub WordCause : List ℕ → List ℕ → Refusal → Type 0
WordCause words bytes = CauseOf (WordFormOf words bytes) (BadWords words bytes) ⊥

abbrev pub WordOpens : List ℕ → List ℕ → Meaning → Type 0
WordOpens words bytes = Opens (WordFormOf words bytes) (WordCause words bytes)

abbrev pub WordRefuses : List ℕ → List ℕ → Refusal → Type 0
WordRefuses words bytes = Refuses (WordFormOf words bytes) (WordCause words bytes)
