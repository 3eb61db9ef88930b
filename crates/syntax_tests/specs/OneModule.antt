-- What a source of one module means.
use Rattle.std.specs.Prelude.{ℕ, List, [], ◌∷◌}
use Rattle.syntax.specs.Meaning.{Meaning}

abbrev pub module_meaning : List ℕ → Meaning
module_meaning name = record {
  nodes = record { kind = 0; end = 2; text = 0; mark = 0; from = 0; to = 0 } ∷ record { kind = 17; end = 2; text = 1; mark = 1; from = 0; to = 0 } ∷ [];
  texts = name ∷ [];
}
