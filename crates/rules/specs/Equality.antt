-- Equal paths: of one kind, with the same names in the same order.
use Rattle.std.specs.Prelude.{ℕ, ◌+◌, Bool, true, false, cond, ◌&&◌, ◌||◌, List, [], ◌∷◌, ◌==◌}
use Rattle.paths.specs.Spelling.{Path}
use Rattle.paths.specs.declared.mod_path.PathKind.{PathKind}
use Rattle.paths.specs.declared.mod_path.PathKind.TheVariants.{Plain, Super, Crate, Abs, DollarCrate}
use Rattle.paths.specs.declared.name.Name.{Name}
use Rattle.paths.specs.declared.name.Name.TheVariants.{Text, Missing}

-- the missing name is no text's
abbrev pub same_name : Name → Name → Bool
same_name (Text a) (Text b) = a == b
same_name (Text a) Missing = false
same_name Missing (Text b) = false
same_name Missing Missing = true

abbrev pub same_names : List Name → List Name → Bool
same_names [] [] = true
same_names [] (y ∷ ys) = false
same_names (x ∷ xs) [] = false
same_names (x ∷ xs) (y ∷ ys) = same_name x y && same_names xs ys

-- kinds have different numbers, and those of `super` go on
abbrev pub kind_number : PathKind → ℕ
kind_number Plain = 0
kind_number Abs = 1
kind_number Crate = 2
kind_number DollarCrate = 3
kind_number (Super n) = 4 + n

abbrev pub same_path : Path → Path → Bool
same_path p q = kind_number p.kind == kind_number q.kind && same_names p.names q.names

-- p is one of the paths
abbrev pub has : Path → List Path → Bool
has p [] = false
has p (q ∷ qs) = same_path p q || has p qs

-- p after the paths, unless it is one of them
abbrev pub noted : List Path → Path → List Path
noted [] p = p ∷ []
noted (q ∷ qs) p = cond (same_path q p) (q ∷ qs) (q ∷ noted qs p)

-- those of `more` after the paths, each path once, by first appearance
abbrev pub distinct : List Path → List Path → List Path
distinct ps [] = ps
distinct ps (q ∷ qs) = distinct (noted ps q) qs
