-- The laws of joining.
use Rattle.std.proofs.Common.{◌≡◌, ℕ, zero, suc, ◌+◌, ◌≤◌, List, [], ◌∷◌, ◌++◌, Some, None, Option, refl, arith}
use Rattle.paths.specs.Joining.{under, broken, Target, join, single_target}
use Rattle.paths.specs.JoiningLaws.{Joinable, plain, supers, IsSelf, IsBare, JoiningLaws}
use Rattle.paths.specs.Spelling.{Path}
use Rattle.paths.specs.declared.join.ImportKind.TheVariants.{Single, TypeOnly}
use Rattle.paths.specs.declared.mod_path.PathKind.{PathKind}
use Rattle.paths.specs.declared.mod_path.PathKind.TheVariants.{Plain, Super, Crate, Abs, DollarCrate}
use Rattle.paths.specs.declared.name.Name.{Name}

abbrev path : PathKind → List Name → Path
path k ns = record { kind = k; names = ns }

joins_plain : (p q : Path) → q.kind ≡ Plain → join (under p) q ≡ under (record { kind = p.kind; names = p.names ++ q.names })
joins_plain p q e = rw e refl

joins_supers : (m n : ℕ) (p q : Path) → p.kind ≡ Super m → p.names ≡ [] → q.kind ≡ Super n → 1 ≤ n → join (under p) q ≡ under (record { kind = Super (m + n); names = q.names })
joins_supers m zero p q e f g h = absurd (omega arith)
joins_supers m (suc n) p q e f g h = rw (g, e, f) refl

others-at : (k : PathKind) (xs : List Name) (l : PathKind) (ys : List Name) → (Joinable (path k xs) (path l ys) → ⊥) → join (under (path k xs)) (path l ys) ≡ broken
others-at k xs Plain ys h = absurd (h (plain refl))
others-at k xs Crate ys h = refl
others-at k xs Abs ys h = refl
others-at k xs DollarCrate ys h = refl
others-at k xs (Super zero) ys h = refl
others-at Plain xs (Super (suc n)) ys h = refl
others-at Crate xs (Super (suc n)) ys h = refl
others-at Abs xs (Super (suc n)) ys h = refl
others-at DollarCrate xs (Super (suc n)) ys h = refl
others-at (Super m) [] (Super (suc n)) ys h = absurd (h (supers m (suc n) refl refl refl (omega arith)))
others-at (Super m) (x ∷ xs) (Super (suc n)) ys h = refl

names_at : (k : PathKind) (xs : List Name) (l : PathKind) (ys : List Name) (r : Path) → join (under (path k xs)) (path l ys) ≡ under r → r.names ≡ xs ++ ys
names_at k xs Plain ys r e = cc
names_at k xs Crate ys r e = cc
names_at k xs Abs ys r e = cc
names_at k xs DollarCrate ys r e = cc
names_at k xs (Super zero) ys r e = cc
names_at Plain xs (Super (suc n)) ys r e = cc
names_at Crate xs (Super (suc n)) ys r e = cc
names_at Abs xs (Super (suc n)) ys r e = cc
names_at DollarCrate xs (Super (suc n)) ys r e = cc
names_at (Super m) [] (Super (suc n)) ys r e = cc
names_at (Super m) (x ∷ xs) (Super (suc n)) ys r e = cc

self_alone-at : (k : PathKind) (xs : List Name) → (IsBare (path k xs) → ⊥) → single_target (under (path k xs)) (path (Super 0) []) ≡ Some (record { path = path k xs; kind = TypeOnly })
self_alone-at Abs [] h = absurd (h (refl, refl))
self_alone-at Abs (x ∷ xs) h = refl
self_alone-at Plain xs h = refl
self_alone-at Crate xs h = refl
self_alone-at DollarCrate xs h = refl
self_alone-at (Super n) xs h = refl

abbrev imports : Path → Option Target
imports p = Some (record { path = p; kind = Single })

single-at : (p : Path) (l : PathKind) (ys : List Name) (r : Path) → (IsSelf (path l ys) → ⊥) → join (under p) (path l ys) ≡ under r → single_target (under p) (path l ys) ≡ Some (record { path = r; kind = Single })
single-at p (Super zero) [] r h e = cc
single-at p (Super zero) (y ∷ ys) r h e = cc
single-at p (Super (suc n)) ys r h e = rw e refl
single-at p Plain ys r h e = cc
single-at p Crate ys r h e = cc
single-at p Abs ys r h e = cc
single-at p DollarCrate ys r h e = cc

single-not-at : (p : Path) (l : PathKind) (ys : List Name) → (IsSelf (path l ys) → ⊥) → join (under p) (path l ys) ≡ broken → single_target (under p) (path l ys) ≡ None
single-not-at p (Super zero) [] h e = absurd (h (refl, refl))
single-not-at p (Super zero) (y ∷ ys) h e = refl
single-not-at p (Super (suc n)) ys h e = rw e refl
single-not-at p Plain ys h e = cc
single-not-at p Crate ys h e = refl
single-not-at p Abs ys h e = refl
single-not-at p DollarCrate ys h e = refl

pub joining_laws : JoiningLaws
joining_laws =
    record {
      absent = λ q. refl;
      plain = joins_plain;
      supers = joins_supers;
      others = λ p q. others-at p.kind p.names q.kind q.names;
      broken_stays = λ q. refl;
      names = λ p q. names_at p.kind p.names q.kind q.names;
      self_alone = λ p q s h. rw (s.0, s.1) (self_alone-at p.kind p.names h);
      self_bare = λ p q s b. rw (s.0, s.1, b.0, b.1) refl;
      single = λ p q. single-at p q.kind q.names;
      single_not = λ p q. single-not-at p q.kind q.names;
      single_first = λ q. refl;
      glob = λ p q r e. rw e refl;
      glob_not = λ p q e. rw e refl;
      glob_prefix = λ p. refl;
      glob_alone = refl;
    }
