-- What a visibility number names.
use Rattle.std.specs.Prelude.{ℕ, cond, List, Some, Option, ◌==◌}
use Rattle.syntax.specs.Meaning.{at}
use Rattle.items.specs.declared.visibility.RawVisibility.{RawVisibility}
use Rattle.items.specs.declared.visibility.RawVisibility.TheVariants.{PubSelf, PubCrate, Public}
use Rattle.items.specs.declared.visibility.VisibilityExplicitness.TheVariants.{Explicit, Implicit}

-- four have numbers of their own, the others are rows
abbrev pub visibility_at : List RawVisibility → ℕ → Option RawVisibility
visibility_at rows number =
    cond (number == 4294967295) (Some Public)
    (cond (number == 4294967294) (Some (PubSelf Implicit))
    (cond (number == 4294967293) (Some (PubSelf Explicit))
    (cond (number == 4294967292) (Some PubCrate) (at rows number))))
