-- Nodes in source order, as trees: a node's `end` is the number after its last descendant.
use Rattle.std.specs.Prelude.{◌≡◌, ℕ, zero, suc, ◌+◌, ◌-◌, ◌<◌, ◌≤◌, max, List, [], ◌∷◌, ◌++◌, length, take, drop}
use Rattle.syntax.specs.declared.node.Node.{Node}

-- siblings: none, or a node with its children, and then those after it
pub data Siblings : Type 0 where
  none : Siblings
  node : Node → Siblings → Siblings → Siblings

abbrev pub size : Siblings → ℕ
size none = 0
size (node x children later) = 1 + size children + size later

-- how many levels there are
abbrev pub height : Siblings → ℕ
height none = 0
height (node x children later) = max (1 + height children) (height later)

-- in source order: a node, its children, and those after it
abbrev pub listed : Siblings → List Node
listed none = []
listed (node x children later) = x ∷ (listed children ++ listed later)

-- siblings fill the numbers from i to before `end`: each ends above its number, and the next begins there
abbrev pub Fill : ℕ → ℕ → Siblings → Type 0
Fill i end none = i ≡ end
Fill i end (node x children later) = (i < x.end) × (x.end ≤ end) × Fill (i + 1) x.end children × Fill x.end end later

-- what the ends make of a list whose first node has number i, in at most `steps` steps
abbrev pub grouped : ℕ → ℕ → List Node → Siblings
grouped zero i xs = none
grouped (suc steps) i [] = none
grouped (suc steps) i (x ∷ xs) = node x (grouped steps (i + 1) (take (x.end - (i + 1)) xs)) (grouped steps x.end (drop (x.end - (i + 1)) xs))

abbrev pub siblings : ℕ → List Node → Siblings
siblings i xs = grouped (length xs) i xs

-- those numbered from i to before `end`
abbrev pub between : List Node → ℕ → ℕ → Siblings
between xs i end = siblings i (take (end - i) (drop i xs))
