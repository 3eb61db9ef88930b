-- A path under the joined path of the groups around it.
use Rattle.std.specs.Prelude.{ℕ, zero, suc, ◌+◌, Bool, true, false, cond, List, [], ◌∷◌, ◌++◌, Some, None, Option}
use Rattle.paths.specs.Spelling.{Path}
use Rattle.paths.specs.declared.join.ImportKind.{ImportKind}
use Rattle.paths.specs.declared.join.ImportKind.TheVariants.{Single, TypeOnly, Glob}
use Rattle.paths.specs.declared.mod_path.PathKind.{PathKind}
use Rattle.paths.specs.declared.mod_path.PathKind.TheVariants.{Plain, Super, Crate, Abs, DollarCrate}
use Rattle.paths.specs.declared.name.Name.{Name}

-- what the groups around a use node come to: no path, a path, or a join that fails
pub data Prefix : Type 0 where
  none : Prefix
  under : Path → Prefix
  broken : Prefix

-- `super` n times and then names, under a kind with names
abbrev plus_supers : PathKind → List Name → ℕ → List Name → Prefix
plus_supers (Super m) [] n ns = under (record { kind = Super (m + n); names = ns })
plus_supers (Super m) (x ∷ xs) n ns = broken
plus_supers Plain xs n ns = broken
plus_supers Abs xs n ns = broken
plus_supers Crate xs n ns = broken
plus_supers DollarCrate xs n ns = broken

-- a plain path goes on with its names, `super` adds to a run of `super`, and nothing else joins
abbrev onto : Path → PathKind → List Name → Prefix
onto p Plain ns = under (record { kind = p.kind; names = p.names ++ ns })
onto p (Super zero) ns = broken
onto p (Super (suc n)) ns = plus_supers p.kind p.names (suc n) ns
onto p Abs ns = broken
onto p Crate ns = broken
onto p DollarCrate ns = broken

abbrev pub join : Prefix → Path → Prefix
join none q = under q
join (under p) q = onto p q.kind q.names
join broken q = broken

-- a group or a glob without a path takes the prefix
abbrev pub join_or : Prefix → Option Path → Prefix
join_or p None = p
join_or p (Some q) = join p q

-- `self` alone
abbrev pub is_self : PathKind → List Name → Bool
is_self (Super zero) [] = true
is_self (Super zero) (x ∷ xs) = false
is_self (Super (suc n)) xs = false
is_self Plain xs = false
is_self Abs xs = false
is_self Crate xs = false
is_self DollarCrate xs = false

-- `::` without names
abbrev pub is_bare : PathKind → List Name → Bool
is_bare Abs [] = true
is_bare Abs (x ∷ xs) = false
is_bare Plain xs = false
is_bare (Super n) xs = false
is_bare Crate xs = false
is_bare DollarCrate xs = false

-- what a leaf imports
pub record Target : Type 0 where
  pub path : Path
  pub kind : ImportKind

abbrev target_at : ImportKind → Prefix → Option Target
target_at kind none = None
target_at kind (under p) = Some (record { path = p; kind = kind })
target_at kind broken = None

-- of a single: `self` alone is the prefix itself, type-only, unless that is a bare `::`
abbrev pub single_target : Prefix → Path → Option Target
single_target none q = Some (record { path = q; kind = Single })
single_target (under p) q =
    cond (is_self q.kind q.names) (cond (is_bare p.kind p.names) None (Some (record { path = p; kind = TypeOnly }))) (target_at Single (join (under p) q))
single_target broken q = None

-- of a glob, with or without a path
abbrev pub glob_target : Prefix → Option Path → Option Target
glob_target p q = target_at Glob (join_or p q)
