-- Who sees a constructor, in terms of modules.
use Rattle.std.specs.Prelude.{◌≡◌, ℕ, zero, suc, ◌<◌, List, [], ◌∷◌, ◌++◌, Some, None, Option, ◌≢◌}
use Rattle.syntax.specs.Meaning.{Meaning}
use Rattle.syntax.specs.declared.walk.NodeRef.{NodeRef}
use Rattle.paths.specs.Spelling.{Path}
use Rattle.items.specs.Written.{Visibility, everywhere, in_crate, in_self, in_module, visibility_of}
use Rattle.rules.specs.Constructors.{Constructor, none, one, all, scanned, fields_of, constructor_of}

-- a finite tree of modules, numbered below `size`: each but the root 0 has a parent, which is nearer to the root
pub record Tree : Type 0 where
  pub size : ℕ
  pub some : 0 < size
  pub parent : ℕ → Option ℕ
  pub rank : ℕ → ℕ
  pub root : parent 0 ≡ None
  pub parents : (m : ℕ) → m < size → (m ≢ 0) → (p : ℕ) × (parent m ≡ Some p) × (p < size) × (rank p < rank m)

-- so many steps towards the root
abbrev pub up : (ℕ → Option ℕ) → ℕ → Option ℕ → Option ℕ
up parent zero m = m
up parent (suc k) None = None
up parent (suc k) (Some m) = up parent k (parent m)

-- m is n, or lies below it
abbrev pub AtOrBelow : Tree → ℕ → ℕ → Type 0
AtOrBelow t m n = (k : ℕ) × (up t.parent k (Some m) ≡ Some n)

-- a place: outside the tree, or in a module
pub data Place : Type 0 where
  outside : Place
  within : ℕ → Place

abbrev pub InTree : Tree → Place → Type 0
InTree t outside = ⊥
InTree t (within m) = m < t.size

-- in the module n, or below it
abbrev pub Under : Tree → ℕ → Place → Type 0
Under t n outside = ⊥
Under t n (within m) = (m < t.size) × AtOrBelow t m n

-- whom a visibility admits, where `home` is the module in which it is written and `means` the module of a path
abbrev pub Admits : Tree → ℕ → (Path → ℕ) → Place → Visibility → Type 0
Admits t home means x everywhere = Unit {0}
Admits t home means x in_crate = InTree t x
Admits t home means x (in_self e) = Under t home x
Admits t home means x (in_module p) = Under t (means p) x

abbrev pub AdmitsEach : Tree → ℕ → (Path → ℕ) → Place → List Visibility → Type 0
AdmitsEach t home means x [] = Unit {0}
AdmitsEach t home means x (v ∷ later) = Admits t home means x v × AdmitsEach t home means x later

abbrev pub UnderEach : Tree → (Path → ℕ) → Place → List Path → Type 0
UnderEach t means x [] = Unit {0}
UnderEach t means x (p ∷ later) = Under t (means p) x × UnderEach t means x later

-- a list admits what every member admits
abbrev pub Callable : Tree → ℕ → (Path → ℕ) → Place → Constructor → Type 0
Callable t home means x none = ⊥
Callable t home means x (one v) = Admits t home means x v
Callable t home means x (all ps) = UnderEach t means x ps

-- the path of a visibility means the home or a module above it
abbrev pub AtOrAbove : Tree → ℕ → (Path → ℕ) → Visibility → Type 0
AtOrAbove t home means everywhere = Unit {0}
AtOrAbove t home means in_crate = Unit {0}
AtOrAbove t home means (in_self e) = Unit {0}
AtOrAbove t home means (in_module p) = AtOrBelow t home (means p)

abbrev pub EachAtOrAbove : Tree → ℕ → (Path → ℕ) → List Visibility → Type 0
EachAtOrAbove t home means [] = Unit {0}
EachAtOrAbove t home means (v ∷ later) = AtOrAbove t home means v × EachAtOrAbove t home means later

-- each of two follows from the other
abbrev pub Same : Type 0 → Type 0 → Type 0
Same A B = (A → B) × (B → A)

-- a tuple struct's constructor is seen exactly where the struct and each of its fields are
abbrev pub ConstructorLaw : Type 0
ConstructorLaw =
    (t : Tree) (home : ℕ) (means : Path → ℕ) → home < t.size →
    (v : Visibility) (fields : List Visibility) → EachAtOrAbove t home means (v ∷ fields) →
    (x : Place) → Same (Callable t home means x (scanned (one v) fields)) (AdmitsEach t home means x (v ∷ fields))

-- the same, of a tuple struct of a source and its fields as written
abbrev pub StructLaw : Type 0
StructLaw =
    (m : Meaning) (struct : NodeRef) → struct.node.mark ≡ 2 →
    (t : Tree) (home : ℕ) (means : Path → ℕ) → home < t.size → EachAtOrAbove t home means (visibility_of m struct ∷ fields_of m struct) →
    (x : Place) → Same (Callable t home means x (constructor_of m struct)) (AdmitsEach t home means x (visibility_of m struct ∷ fields_of m struct))

-- one more field, wherever it stands, lets nobody see the constructor who did not
abbrev pub FieldsNarrow : Type 0
FieldsNarrow =
    (t : Tree) (home : ℕ) (means : Path → ℕ) → home < t.size →
    (v : Visibility) (before : List Visibility) (field : Visibility) (after : List Visibility) → EachAtOrAbove t home means (v ∷ before ++ field ∷ after) →
    (x : Place) → Callable t home means x (scanned (one v) (before ++ field ∷ after)) → Callable t home means x (scanned (one v) (before ++ after))
