-- The children of a node, each with its number.
use Rattle.std.specs.Prelude.{◌≡◌, ℕ, zero, suc, ◌+◌, ◌-◌, ◌≤◌, cond, ◌&&◌, nat_lt, nat_le, List, [], ◌∷◌, length, Some, None, Option}
use Rattle.std.specs.List.{filter, find}
use Rattle.syntax.specs.declared.kind.SyntaxKind.{SyntaxKind}
use Rattle.syntax.specs.declared.node.Node.{Node}
use Rattle.syntax.specs.declared.walk.NodeRef.{NodeRef}
use Rattle.syntax.specs.Meaning.{Meaning, node_at}
use Rattle.syntax.specs.Table.{is}
use Rattle.syntax.specs.Trees.{Siblings, none, node, Fill, between}

-- siblings without what is below them; the first has number i
abbrev pub numbered : ℕ → Siblings → List NodeRef
numbered i none = []
numbered i (node x children later) = record { number = i; node = x } ∷ numbered x.end later

-- the siblings from number i on, up to before `end`
abbrev pub row : Meaning → ℕ → ℕ → List NodeRef
row m i end = numbered i (between m.nodes i end)

abbrev pub children : Meaning → NodeRef → List NodeRef
children m x = row m (x.number + 1) x.node.end

-- the number is that of the node
abbrev pub StandsIn : Meaning → NodeRef → Type 0
StandsIn m x = node_at m x.number ≡ Some x.node

-- siblings fill the numbers from i to before `end`
pub record Row (m : Meaning) (i end : ℕ) : Type 0 where
  pub fill : Fill i end (between m.nodes i end)
  pub within : end ≤ length m.nodes

-- x is the first of a row, and the others are a row after it
pub record Leads (m : Meaning) (i end : ℕ) (x : NodeRef) : Type 0 where
  pub stands : StandsIn m x
  pub rest : Row m x.node.end end
  pub first : row m i end ≡ x ∷ row m x.node.end end

-- the node of number i, and what `later` meets from its end on, unless the end is not above i, or after `end`
abbrev pub met_at : (ℕ → List NodeRef) → ℕ → ℕ → Option Node → List NodeRef
met_at later i end None = []
met_at later i end (Some x) = cond (nat_lt i x.end && nat_le x.end end) (record { number = i; node = x } ∷ later x.end) []

abbrev pub met : ℕ → Meaning → ℕ → ℕ → List NodeRef
met zero m end i = []
met (suc steps) m end i = met_at (met steps m end) i end (node_at m i)

-- what is met from number i on, up to before `end`, where each goes on at the end of the one before
unfoldable pub walk : Meaning → ℕ → ℕ → List NodeRef
walk m i end = met (end - i) m end i

-- those of a kind, in order
abbrev pub of_kind : SyntaxKind → List NodeRef → List NodeRef
of_kind kind = filter (λ x. is kind x.node.kind)

-- the first of a kind
abbrev pub first_of : SyntaxKind → List NodeRef → Option NodeRef
first_of kind = find (λ x. is kind x.node.kind)

abbrev pub child_of : SyntaxKind → Meaning → NodeRef → Option NodeRef
child_of kind m x = first_of kind (children m x)
