-- Things with fields, read from the front of bytes: one stands there, or why none does.
use Rattle.std.specs.Prelude.{◌≡◌, ℕ, ◌<◌, ◌≤◌, ◌⊎◌, List, ◌∷◌, ◌++◌, length, map, take, drop, slice_index_or}
use Rattle.std.specs.List.{flat_map}
use Rattle.syntax.specs.Meaning.{Meaning}
use Rattle.syntax.specs.declared.node.Node.{Node}
use Rattle.syntax.specs.declared.refusal.Refusal.{Refusal}
use Rattle.syntax.specs.declared.refusal.Refusal.TheVariants.{Form, Number}
use Rattle.forms.specs.declared.number.NumberFault.{NumberFault}
use Rattle.forms.specs.declared.number.NumberFault.TheVariants.{TooWide, NotShortest}
use Rattle.forms.specs.declared.tables.Span.{Span}
use Rattle.forms.specs.declared.tables.Tables.{Tables}
use Rattle.forms.specs.Numbers.{NumberFaulty}
use Rattle.forms.specs.Form.{Field, number, in_bytes, Narrow, node_fields, text_fields, form_fields}
use Rattle.forms.specs.Tables.{SpansWithin, span_end, spanned, spanned_all}

abbrev pub Any : {A : Type 0} → A → Type 0
Any a = Unit {0}

abbrev pub OfLength : {A : Type 0} → ℕ → List A → Type 0
OfLength n xs = length xs ≡ n

-- a stands at the front, and then the rest
pub record Stands {A : Type 0} (P : A → Type 0) (fields : A → List Field) (bytes : List ℕ) (a : A) (rest : List ℕ) : Type 0 where
  pub kept : P a
  pub narrow : Narrow (fields a)
  pub same : bytes ≡ in_bytes (fields a) ++ rest

-- the bytes end before something that begins so
pub record Cut {A : Type 0} (P : A → Type 0) (fields : A → List Field) (bytes : List ℕ) : Type 0 where
  pub whole : A
  pub rest : List ℕ
  pub kept : P whole
  pub narrow : Narrow (fields whole)
  pub some : 0 < length rest
  pub same : bytes ++ rest ≡ in_bytes (fields whole)

-- up to a number the bytes are those of something, and then comes what is no number
pub record Stray {A : Type 0} (P : A → Type 0) (fields : A → List Field) (bytes : List ℕ) (fault : NumberFault) : Type 0 where
  pub whole : A
  pub before : List Field
  pub value : ℕ
  pub after : List Field
  pub bad : List ℕ
  pub kept : P whole
  pub narrow : Narrow (fields whole)
  pub there : fields whole ≡ before ++ number value ∷ after
  pub same : bytes ≡ in_bytes before ++ bad
  pub faulty : NumberFaulty bad fault

-- what comes there is over 32 bits, or not the shortest
abbrev pub BadNumber : {A : Type 0} → (A → Type 0) → (A → List Field) → List ℕ → Type 0
BadNumber P fields bytes = Stray P fields bytes TooWide ⊎ Stray P fields bytes NotShortest

unfoldable pub Fails : {A : Type 0} → (A → Type 0) → (A → List Field) → List ℕ → Refusal → Type 0
Fails P fields bytes e = ((e ≡ Form) × Cut P fields bytes) ⊎ ((e ≡ Number) × BadNumber P fields bytes)

-- n things stand from `at` to `next`, and are in the table if it has room
pub record RowsRead {A M : Type 0} (meant : A → M) (fields : M → List Field) (Within : A → Type 0) (bytes : List ℕ) (at n : ℕ) (table : List A) (next : ℕ) : Type 0 where
  pub rows : List M
  pub stand : Stands (OfLength n) (flat_map fields) (drop at bytes) rows (drop next bytes)
  pub held : n ≤ length table → map meant (take n table) ≡ rows
  pub within : n ≤ length table → (d : A) (k : ℕ) → k < n → Within (slice_index_or table k d)

-- n nodes, and t texts, whose spans are in the table
abbrev pub NodesRead : List ℕ → ℕ → ℕ → List Node → ℕ → Type 0
NodesRead = RowsRead (λ x. x) node_fields Any

abbrev pub TextsRead : List ℕ → ℕ → ℕ → List Span → ℕ → Type 0
TextsRead bytes = RowsRead (spanned bytes) text_fields (λ span. span_end span ≤ length bytes) bytes

-- it is the form of something, whose nodes and texts are in the tables if these have room
pub record FormRead (FormOf : Meaning → Type 0) (bytes : List ℕ) (tables : Tables) : Type 0 where
  pub meaning : Meaning
  pub form : FormOf meaning
  pub node_count : length meaning.nodes ≡ tables.counts.nodes
  pub text_count : length meaning.texts ≡ tables.counts.texts
  pub nodes_held : tables.counts.nodes ≤ length tables.nodes → take tables.counts.nodes tables.nodes ≡ meaning.nodes
  pub texts_held : tables.counts.texts ≤ length tables.texts → spanned_all bytes (take tables.counts.texts tables.texts) ≡ meaning.texts
  pub within : tables.counts.texts ≤ length tables.texts → SpansWithin tables.texts tables.counts.texts (length bytes)

-- bytes come after a packed form
pub record Long (bytes : List ℕ) : Type 0 where
  pub meaning : Meaning
  pub rest : List ℕ
  pub some : 0 < length rest
  pub narrow : Narrow (form_fields meaning)
  pub same : bytes ≡ in_bytes (form_fields meaning) ++ rest

-- why the bytes are no packed form
unfoldable pub Unread : List ℕ → Refusal → Type 0
Unread bytes e = Fails Any form_fields bytes e ⊎ ((e ≡ Form) × Long bytes)
