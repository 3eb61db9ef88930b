-- The packed form of a meaning: fields one after another, each a number or the bytes of a text.
use Rattle.std.specs.Prelude.{◌≡◌, ℕ, ◌^◌, ◌<◌, List, [], ◌∷◌, ◌++◌, length}
use Rattle.std.specs.List.{flat_map}
use Rattle.syntax.specs.Meaning.{Meaning}
use Rattle.syntax.specs.declared.node.Node.{Node}
use Rattle.forms.specs.Numbers.{encoded}

pub data Field : Type 0 where
  number : ℕ → Field
  content : List ℕ → Field

abbrev pub field_bytes : Field → List ℕ
field_bytes (number n) = encoded n
field_bytes (content t) = t

abbrev pub in_bytes : List Field → List ℕ
in_bytes fields = flat_map field_bytes fields

-- every number has 32 bits
abbrev pub Narrow : List Field → Type 0
Narrow [] = Unit {0}
Narrow (number n ∷ fields) = (n < 2 ^ 32) × Narrow fields
Narrow (content t ∷ fields) = Narrow fields

abbrev pub node_fields : Node → List Field
node_fields x = number x.kind ∷ number x.end ∷ number x.text ∷ number x.mark ∷ number x.from ∷ number x.to ∷ []

abbrev pub text_fields : List ℕ → List Field
text_fields t = number (length t) ∷ content t ∷ []

abbrev pub form_fields : Meaning → List Field
form_fields m = number (length m.nodes) ∷ number (length m.texts) ∷ (flat_map node_fields m.nodes ++ flat_map text_fields m.texts)

-- the bytes are the packed form of m
pub record FormOf (bytes : List ℕ) (m : Meaning) : Type 0 where
  pub narrow : Narrow (form_fields m)
  pub same : bytes ≡ in_bytes (form_fields m)
