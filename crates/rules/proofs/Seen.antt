-- A constructor is seen exactly where the struct and each of its fields are.
use Rattle.std.proofs.Common.{◌≡◌, ℕ, zero, suc, List, [], ◌∷◌, ◌++◌, Some, None, Option, subst, arith}
use Rattle.std.proofs.lemmas.Bool.{cond_both}
use Rattle.paths.specs.Spelling.{Path}
use Rattle.items.specs.Written.{Visibility, everywhere, in_crate, in_self, in_module, visibility_of}
use Rattle.rules.proofs.Alike.{path-same}
use Rattle.rules.specs.Constructors.{Constructor, none, one, all, narrowed, scanned, fields_of}
use Rattle.rules.specs.Equality.{same_path, noted}
use Rattle.rules.specs.Modules.{Tree, up, AtOrBelow, Place, outside, within, InTree, Under, Admits, AdmitsEach, UnderEach, Callable, AtOrAbove, EachAtOrAbove, Same, ConstructorLaw, StructLaw, FieldsNarrow}

never : {n : ℕ} → ◌≡◌ {A = Option ℕ} None (Some n) → ⊥
never e = let z : ◌≡◌ {A = ℕ} 0 1 = cc in omega arith

climb : (parent : ℕ → Option ℕ) (k : ℕ) (o : Option ℕ) (j h n : ℕ) → up parent k o ≡ Some h → up parent j (Some h) ≡ Some n → (i : ℕ) × (up parent i o ≡ Some n)
climb parent zero o j h n e f = (j, rw e f)
climb parent (suc k) None j h n e f = absurd (never e)
climb parent (suc k) (Some m) j h n e f = let r = climb parent k (parent m) j h n e f in (suc r.0, r.1)

module _ (t : Tree) (home : ℕ) (means : Path → ℕ) where
  in_tree : (n : ℕ) (x : Place) → Under t n x → InTree t x
  in_tree n outside s = s
  in_tree n (within m) s = s.0

  from-home : (n : ℕ) (x : Place) → AtOrBelow t home n → Under t home x → Under t n x
  from-home n outside above s = s
  from-home n (within m) above s = (s.0, climb t.parent s.1.0 (Some m) above.0 home n s.1.1 above.1)

  abbrev PathsAbove : List Path → Type 0
  PathsAbove [] = Unit {0}
  PathsAbove (p ∷ ps) = AtOrBelow t home (means p) × PathsAbove ps

  -- a value of the scan: its paths lie at or above home, and a list has a member
  abbrev Good : Constructor → Type 0
  Good none = Unit {0}
  Good (one v) = AtOrAbove t home means v
  Good (all []) = ⊥
  Good (all (p ∷ ps)) = PathsAbove (p ∷ ps)

  noted-above : (ps : List Path) (q : Path) → PathsAbove ps → AtOrBelow t home (means q) → PathsAbove (noted ps q)
  noted-above [] q h a = (a, tt)
  noted-above (p ∷ ps) q h a = cond_both (same_path p q) (p ∷ ps) (p ∷ noted ps q) PathsAbove (λ _. h) (λ _. (h.0, noted-above ps q h.1 a))

  noted-good : (p : Path) (ps : List Path) (q : Path) → PathsAbove (p ∷ ps) → AtOrBelow t home (means q) → Good (all (noted (p ∷ ps) q))
  noted-good p ps q h a = cond_both (same_path p q) (p ∷ ps) (p ∷ noted ps q) (λ rs. Good (all rs)) (λ _. h) (λ _. (h.0, noted-above ps q h.1 a))

  narrowed-good : (c : Constructor) (v : Visibility) → Good c → AtOrAbove t home means v → Good (narrowed c v)
  narrowed-good none v g a = tt
  narrowed-good (one (in_self e)) v g a = tt
  narrowed-good (one everywhere) v g a = a
  narrowed-good (one in_crate) (in_self e) g a = tt
  narrowed-good (one in_crate) everywhere g a = tt
  narrowed-good (one in_crate) in_crate g a = tt
  narrowed-good (one in_crate) (in_module q) g a = a
  narrowed-good (one (in_module p)) (in_self e) g a = tt
  narrowed-good (one (in_module p)) everywhere g a = g
  narrowed-good (one (in_module p)) in_crate g a = g
  narrowed-good (one (in_module p)) (in_module q) g a = cond_both (same_path p q) (one (in_module p)) (all (p ∷ q ∷ [])) Good (λ _. g) (λ _. (g, (a, tt)))
  narrowed-good (all []) v g a = absurd g
  narrowed-good (all (p ∷ ps)) (in_self e) g a = tt
  narrowed-good (all (p ∷ ps)) everywhere g a = g
  narrowed-good (all (p ∷ ps)) in_crate g a = g
  narrowed-good (all (p ∷ ps)) (in_module q) g a = noted-good p ps q g a

  module _ (x : Place) where
    home-admits : (v : Visibility) → AtOrAbove t home means v → Under t home x → Admits t home means x v
    home-admits everywhere a s = tt
    home-admits in_crate a s = in_tree home x s
    home-admits (in_self e) a s = s
    home-admits (in_module p) a s = from-home (means p) x a s

    home-each : (ps : List Path) → PathsAbove ps → Under t home x → UnderEach t means x ps
    home-each [] a s = tt
    home-each (p ∷ ps) a s = (from-home (means p) x a.0 s, home-each ps a.1 s)

    noted-out : (ps : List Path) (q : Path) → UnderEach t means x (noted ps q) → UnderEach t means x ps × Under t (means q) x
    noted-out [] q h = (tt, h.0)
    noted-out (p ∷ ps) q h =
        cond_both (same_path p q) (p ∷ ps) (p ∷ noted ps q) (λ rs. UnderEach t means x rs → UnderEach t means x (p ∷ ps) × Under t (means q) x)
        (λ y k. (k, subst (λ r. Under t (means r) x) (path-same p q y) k.0))
        (λ _ k. let r = noted-out ps q k.1 in ((k.0, r.0), r.1))
        h

    noted_in : (ps : List Path) (q : Path) → UnderEach t means x ps → Under t (means q) x → UnderEach t means x (noted ps q)
    noted_in [] q h s = (s, tt)
    noted_in (p ∷ ps) q h s = cond_both (same_path p q) (p ∷ ps) (p ∷ noted ps q) (UnderEach t means x) (λ _. h) (λ _. (h.0, noted_in ps q h.1 s))

    two-modules : (p q : Path) → Same (Callable t home means x (narrowed (one (in_module p)) (in_module q))) (Under t (means p) x × Under t (means q) x)
    two-modules p q =
        cond_both (same_path p q) (one (in_module p)) (all (p ∷ q ∷ [])) (λ c. Same (Callable t home means x c) (Under t (means p) x × Under t (means q) x))
        (λ y. (λ h. (h, subst (λ r. Under t (means r) x) (path-same p q y) h), λ h. h.0))
        (λ _. (λ h. (h.0, h.1.0), λ h. (h.0, (h.1, tt))))

    narrowed-same : (c : Constructor) (v : Visibility) → Good c → AtOrAbove t home means v → Same (Callable t home means x (narrowed c v)) (Callable t home means x c × Admits t home means x v)
    narrowed-same none v g a = (λ h. absurd h, λ h. h.0)
    narrowed-same (one (in_self e)) v g a = (λ h. (h, home-admits v a h), λ h. h.0)
    narrowed-same (one everywhere) v g a = (λ h. (tt, h), λ h. h.1)
    narrowed-same (one in_crate) (in_self e) g a = (λ h. (in_tree home x h, h), λ h. h.1)
    narrowed-same (one in_crate) everywhere g a = (λ h. (h, tt), λ h. h.0)
    narrowed-same (one in_crate) in_crate g a = (λ h. (h, h), λ h. h.0)
    narrowed-same (one in_crate) (in_module q) g a = (λ h. (in_tree (means q) x h, h), λ h. h.1)
    narrowed-same (one (in_module p)) (in_self e) g a = (λ h. (from-home (means p) x g h, h), λ h. h.1)
    narrowed-same (one (in_module p)) everywhere g a = (λ h. (h, tt), λ h. h.0)
    narrowed-same (one (in_module p)) in_crate g a = (λ h. (h, in_tree (means p) x h), λ h. h.0)
    narrowed-same (one (in_module p)) (in_module q) g a = two-modules p q
    narrowed-same (all []) v g a = absurd g
    narrowed-same (all (p ∷ ps)) (in_self e) g a = (λ h. (home-each (p ∷ ps) g h, h), λ h. h.1)
    narrowed-same (all (p ∷ ps)) everywhere g a = (λ h. (h, tt), λ h. h.0)
    narrowed-same (all (p ∷ ps)) in_crate g a = (λ h. (h, in_tree (means p) x h.0), λ h. h.0)
    narrowed-same (all (p ∷ ps)) (in_module q) g a = (λ h. noted-out (p ∷ ps) q h, λ h. noted_in (p ∷ ps) q h.0 h.1)

    scanned-same : (c : Constructor) (vs : List Visibility) → Good c → EachAtOrAbove t home means vs → Same (Callable t home means x (scanned c vs)) (Callable t home means x c × AdmitsEach t home means x vs)
    scanned-same c [] g a = (λ h. (h, tt), λ h. h.0)
    scanned-same c (v ∷ vs) g a =
        let here = narrowed-same c v g a.0 in
        let later = scanned-same (narrowed c v) vs (narrowed-good c v g a.0) a.1 in
        (λ h. let l = later.0 h in let k = here.0 l.0 in (k.0, (k.1, l.1)), λ h. later.1 (here.1 (h.0, h.1.0), h.1.1))

    each-without : (before : List Visibility) (v : Visibility) (after : List Visibility) → AdmitsEach t home means x (before ++ v ∷ after) → AdmitsEach t home means x (before ++ after)
    each-without [] v after h = h.1
    each-without (w ∷ before) v after h = (h.0, each-without before v after h.1)

  above-without : (before : List Visibility) (v : Visibility) (after : List Visibility) → EachAtOrAbove t home means (before ++ v ∷ after) → EachAtOrAbove t home means (before ++ after)
  above-without [] v after h = h.1
  above-without (w ∷ before) v after h = (h.0, above-without before v after h.1)

pub constructor_law : ConstructorLaw
constructor_law t home means _ v fields above x = scanned-same t home means x (one v) fields above.0 above.1

pub struct_law : StructLaw
struct_law m struct tuple t home means inside above x =
    let law = constructor_law t home means inside (visibility_of m struct) (fields_of m struct) above x in
    rw tuple law

pub fields_narrow : FieldsNarrow
fields_narrow t home means inside v before field after above x h =
    let with = constructor_law t home means inside v (before ++ field ∷ after) above x in
    let without = constructor_law t home means inside v (before ++ after) (above.0, above-without t home means before field after above.1) x in
    let k = with.0 h in
    without.1 (k.0, each-without t home means x before field after k.1)
