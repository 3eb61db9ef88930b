-- What a syntax source means: nodes, numbered from 0, and texts, numbered from 1.
use Rattle.std.specs.Prelude.{ℕ, ◌-◌, cond, List, [], ◌∷◌, drop, Some, None, Option, ◌==◌}
use Rattle.syntax.specs.declared.node.Node.{Node}

pub record Meaning : Type 0 where
  pub nodes : List Node
  -- each a list of bytes
  pub texts : List (List ℕ)

-- the first of a list, if it has one
abbrev pub first : {A : Type 0} → List A → Option A
first [] = None
first (x ∷ xs) = Some x

-- what stands at a place of a list, if anything does
abbrev pub at : {A : Type 0} → List A → ℕ → Option A
at xs i = first (drop i xs)

abbrev pub node_at : Meaning → ℕ → Option Node
node_at m number = at m.nodes number

-- number 0 is no text's
abbrev pub text_at : Meaning → ℕ → Option (List ℕ)
text_at m number = cond (number == 0) None (at m.texts (number - 1))
