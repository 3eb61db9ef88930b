-- That equality of paths is an equivalence, and that no two paths of a table are alike.
use Rattle.std.specs.Prelude.{◌≡◌, ℕ, zero, suc, true, ◌&&◌, List, [], ◌∷◌, ◌==◌, refl}
use Rattle.std.proofs.Common.{sym, ap, ◌∙◌, eqb-true, eq-eqb}
use Rattle.tables.specs.Both.{and_left, and_right}
use Rattle.tables.specs.Sets.{Equality, Equivalence, distinct, equality_equivalence}
use Rattle.paths.specs.Alike.{kind_number, name_number, same_names, same_path}
use Rattle.paths.specs.Kept.{paths_in}
use Rattle.paths.specs.declared.interned.Paths.{Paths}
use Rattle.paths.specs.declared.mod_path.PathKind.{PathKind}
use Rattle.paths.specs.declared.mod_path.PathKind.TheVariants.{Plain, Super, Crate, Abs, DollarCrate}
use Rattle.paths.specs.declared.name.Name.{Name}
use Rattle.paths.specs.declared.name.Name.TheVariants.{Text, Missing}

-- the kind of a number, and the name of one
kind_of : ℕ → PathKind
kind_of zero = Plain
kind_of (suc zero) = Crate
kind_of (suc (suc zero)) = Abs
kind_of (suc (suc (suc zero))) = DollarCrate
kind_of (suc (suc (suc (suc n)))) = Super n

kind-back : (k : PathKind) → kind_of (kind_number k) ≡ k
unfolding kind_of
kind-back Plain = refl
kind-back Crate = refl
kind-back Abs = refl
kind-back DollarCrate = refl
kind-back (Super n) = refl

name_at : ℕ → Name
name_at zero = Missing
name_at (suc t) = Text t

name_back : (n : Name) → name_at (name_number n) ≡ n
unfolding name_at
name_back Missing = refl
name_back (Text t) = refl

names-itself : (xs : List Name) → same_names xs xs ≡ true
names-itself [] = refl
names-itself (x ∷ xs) = ap (λ b. b && same_names xs xs) (eq-eqb (name_number x) (name_number x) refl) ∙ names-itself xs

names-only : (xs ys : List Name) → same_names xs ys ≡ true → xs ≡ ys
names-only [] [] e = refl
names-only [] (y ∷ ys) e = cc
names-only (x ∷ xs) [] e = cc
names-only (x ∷ xs) (y ∷ ys) e =
    let n = eqb-true (name_number x) (name_number y) (and_left (name_number x == name_number y) (same_names xs ys) e) in
    let h : x ≡ y = sym (name_back x) ∙ ap name_at n ∙ name_back y in
    ap (λ z. z ∷ xs) h ∙ ap (λ zs. y ∷ zs) (names-only xs ys (and_right (name_number x == name_number y) (same_names xs ys) e))

-- paths are alike exactly where they are equal
pub path_equality : Equality same_path
unfolding same_path
path_equality = record {
  itself = λ p. ap (λ b. b && same_names p.names p.names) (eq-eqb (kind_number p.kind) (kind_number p.kind) refl) ∙ names-itself p.names;
  only = λ p q e.
      let n = eqb-true (kind_number p.kind) (kind_number q.kind) (and_left (kind_number p.kind == kind_number q.kind) (same_names p.names q.names) e) in
      let k : p.kind ≡ q.kind = sym (kind-back p.kind) ∙ ap kind_of n ∙ kind-back q.kind in
      let ns = names-only p.names q.names (and_right (kind_number p.kind == kind_number q.kind) (same_names p.names q.names) e) in
      λ i. record { kind = k i; names = ns i };
}

pub path_equivalence : Equivalence same_path
path_equivalence = equality_equivalence path_equality

pub paths-apart : (p : Paths) → distinct same_path (paths_in p) ≡ true
unfolding paths_in
paths-apart p = p.laid.0.2
