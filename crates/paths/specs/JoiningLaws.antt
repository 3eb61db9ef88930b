-- What joining comes to, case by case.
use Rattle.std.specs.Prelude.{◌≡◌, ℕ, ◌+◌, ◌≤◌, [], ◌++◌, Some, None}
use Rattle.paths.specs.Joining.{none, under, broken, join, single_target, glob_target}
use Rattle.paths.specs.Spelling.{Path}
use Rattle.paths.specs.declared.join.ImportKind.TheVariants.{Single, TypeOnly, Glob}
use Rattle.paths.specs.declared.mod_path.PathKind.TheVariants.{Plain, Super, Abs}

-- q is plain, or it and p are runs of `super` and p has no names
pub data Joinable (p q : Path) : Type 0 where
  plain : q.kind ≡ Plain → Joinable p q
  supers : (m n : ℕ) → p.kind ≡ Super m → p.names ≡ [] → q.kind ≡ Super n → 1 ≤ n → Joinable p q

-- `self` alone
abbrev pub IsSelf : Path → Type 0
IsSelf q = (q.kind ≡ Super 0) × (q.names ≡ [])

-- `::` without names
abbrev pub IsBare : Path → Type 0
IsBare p = (p.kind ≡ Abs) × (p.names ≡ [])

pub record JoiningLaws : Type 0 where
  -- under no prefix a path is itself
  pub absent : (q : Path) → join none q ≡ under q
  -- a plain path goes on with its names
  pub plain : (p q : Path) → q.kind ≡ Plain → join (under p) q ≡ under (record { kind = p.kind; names = p.names ++ q.names })
  -- `super` adds to a run of `super`
  pub supers : (m n : ℕ) (p q : Path) → p.kind ≡ Super m → p.names ≡ [] → q.kind ≡ Super n → 1 ≤ n → join (under p) q ≡ under (record { kind = Super (m + n); names = q.names })
  -- nothing else joins
  pub others : (p q : Path) → (Joinable p q → ⊥) → join (under p) q ≡ broken
  -- a join that failed stays so
  pub broken_stays : (q : Path) → join broken q ≡ broken
  -- the names are those of the prefix and then those of the path
  pub names : (p q r : Path) → join (under p) q ≡ under r → r.names ≡ p.names ++ q.names
  -- a single with `self` alone is the prefix, type-only, unless that is a bare `::`
  pub self_alone : (p q : Path) → IsSelf q → (IsBare p → ⊥) → single_target (under p) q ≡ Some (record { path = p; kind = TypeOnly })
  pub self_bare : (p q : Path) → IsSelf q → IsBare p → single_target (under p) q ≡ None
  -- any other single and every glob import where they join
  pub single : (p q r : Path) → (IsSelf q → ⊥) → join (under p) q ≡ under r → single_target (under p) q ≡ Some (record { path = r; kind = Single })
  pub single_not : (p q : Path) → (IsSelf q → ⊥) → join (under p) q ≡ broken → single_target (under p) q ≡ None
  pub single_first : (q : Path) → single_target none q ≡ Some (record { path = q; kind = Single })
  pub glob : (p q r : Path) → join (under p) q ≡ under r → glob_target (under p) (Some q) ≡ Some (record { path = r; kind = Glob })
  pub glob_not : (p q : Path) → join (under p) q ≡ broken → glob_target (under p) (Some q) ≡ None
  -- a glob without a path imports the prefix, if there is one
  pub glob_prefix : (p : Path) → glob_target (under p) None ≡ Some (record { path = p; kind = Glob })
  pub glob_alone : glob_target none None ≡ None
