-- What numbers mean while a tree grows: they go on naming what they name, and new ones name what was added.
use Rattle.std.proofs.Common.{◌≡◌, ℕ, ◌<◌, Bool, true, false, cond, eqb, List, Some, None, Option, refl, ap, ◌∙◌, arith}
use Rattle.std.proofs.lemmas.Bool.Decides.{nat_tests}
use Rattle.std.specs.Option.{option_map}
use Rattle.syntax.specs.Meaning.{at}
use Rattle.tables.specs.Sets.{place, inserted}
use Rattle.tables.proofs.Sets.{at-inserted, at-placed, number_unique}
use Rattle.paths.specs.Alike.{same_path}
use Rattle.paths.specs.Same.{path_equality, path_equivalence, paths-apart}
use Rattle.paths.specs.Spelling.{Path}
use Rattle.paths.specs.declared.interned.PathId.{PathId}
use Rattle.items.specs.Recorded.{same_visibility, visibility_equality}
use Rattle.items.specs.Visible.{visibility_at}
use Rattle.items.specs.Written.{Visibility, in_module}
use Rattle.items.specs.declared.ids.RawVisibilityId.{RawVisibilityId}
use Rattle.items.specs.declared.visibility.RawVisibility.{RawVisibility}
use Rattle.items.specs.declared.visibility.RawVisibility.TheVariants.{Module, PubSelf, PubCrate, Public}
use Rattle.tree_tables.specs.Contents.{Shown, shown_of}
use Rattle.tree_tables.specs.Growth.{Became, unchanged, add_path, add_visibility}
use Rattle.tree_tables.specs.Numbers.{path_at, meant_visibility, meant_row, visibility_named}
use Rattle.tree_tables.specs.declared.tree.TreeTables.{TreeTables}

-- ---- changes one after another
pub became_none : (s : TreeTables) → Became s s unchanged
unfolding Became
became_none s = refl

pub became_then : (s t u : TreeTables) (f g : Shown → Shown) → Became s t f → Became t u g → Became s u (λ c. g (f c))
unfolding Became
became_then s t u f g a b = b ∙ ap g a

pub became_is : (s t : TreeTables) (f : Shown → Shown) → Became s t f → shown_of t ≡ f (shown_of s)
unfolding Became
became_is s t f a = a

-- ---- paths
pub path-kept : (c : Shown) (path : Path) (id : PathId) (x : Path) → path_at c id ≡ Some x → path_at (add_path path c) id ≡ Some x
path-kept c path id x h = at-inserted same_path c.paths path id.number x h

pub path_added : (c : Shown) (path : Path) (id : PathId) → id.number ≡ place same_path c.paths path → path_at (add_path path c) id ≡ Some path
path_added c path id e = ap (at (inserted same_path c.paths path)) e ∙ at-placed same_path c.paths path path_equality.only

-- equal paths have equal numbers
pub path-number : (t : TreeTables) (a b : PathId) (x : Path) → path_at (shown_of t) a ≡ Some x → path_at (shown_of t) b ≡ Some x → a.number ≡ b.number
path-number t a b x h k = number_unique same_path path_equivalence (shown_of t).paths a.number b.number x x (paths-apart t.paths) h k (path_equality.itself x)

-- ---- visibilities
four_kept : {A : Type 0} (a b c d : Bool) (x y z w r next : Option A) (v : A) → (r ≡ Some v → next ≡ Some v) → cond a x (cond b y (cond c z (cond d w r))) ≡ Some v → cond a x (cond b y (cond c z (cond d w next))) ≡ Some v
four_kept true b c d x y z w r next v f h = h
four_kept false true c d x y z w r next v f h = h
four_kept false false true d x y z w r next v f h = h
four_kept false false false true x y z w r next v f h = h
four_kept false false false false x y z w r next v f h = f h

-- the numbers without a row are those of no row
row-visibility : (rows : List RawVisibility) (n : ℕ) → n < 128 → visibility_at rows n ≡ at rows n
row-visibility rows n h = grind (arith, nat_tests)

-- a recorded visibility has the meaning of its row
pub visibility_added : (c : Shown) (visibility : RawVisibility) (id : RawVisibilityId) → id.number ≡ place same_visibility c.visibilities visibility → id.number < 128
    → visibility_named (add_visibility visibility c) id ≡ meant_visibility (add_visibility visibility c) visibility
visibility_added c visibility id e low =
    ap (meant_row (add_visibility visibility c))
    (row-visibility (inserted same_visibility c.visibilities visibility) id.number low
    ∙ ap (at (inserted same_visibility c.visibilities visibility)) e
    ∙ at-placed same_visibility c.visibilities visibility visibility_equality.only)

row_kept : (c d : Shown) (o p : Option RawVisibility) (v : Visibility) → ((x : RawVisibility) → o ≡ Some x → p ≡ Some x) → ((x : RawVisibility) → meant_visibility c x ≡ Some v → meant_visibility d x ≡ Some v)
    → meant_row c o ≡ Some v → meant_row d p ≡ Some v
row_kept c d None p v f g h = cc
row_kept c d (Some x) p v f g h = ap (meant_row d) (f x refl) ∙ g x h

mapped_kept : {A B : Type 0} (m : A → B) (o p : Option A) (v : B) → ((x : A) → o ≡ Some x → p ≡ Some x) → option_map m o ≡ Some v → option_map m p ≡ Some v
mapped_kept m None p v f h = cc
mapped_kept m (Some x) p v f h = ap (option_map m) (f x refl) ∙ h

meant-kept : (c d : Shown) (v : Visibility) → ((id : PathId) (x : Path) → path_at c id ≡ Some x → path_at d id ≡ Some x) → (x : RawVisibility) → meant_visibility c x ≡ Some v → meant_visibility d x ≡ Some v
meant-kept c d v f Public h = h
meant-kept c d v f PubCrate h = h
meant-kept c d v f (PubSelf word) h = h
meant-kept c d v f (Module path word) h = mapped_kept in_module (path_at c path) (path_at d path) v (f path) h

-- a number that names a visibility goes on naming it
pub visibility-kept : (c : Shown) (visibility : RawVisibility) (id : RawVisibilityId) (v : Visibility) → visibility_named c id ≡ Some v → visibility_named (add_visibility visibility c) id ≡ Some v
visibility-kept c visibility id v h =
    row_kept c (add_visibility visibility c) (visibility_at c.visibilities id.number) _ v
    (λ x. four_kept (eqb id.number 4294967295) (eqb id.number 4294967294) (eqb id.number 4294967293) (eqb id.number 4294967292) _ _ _ _ (at c.visibilities id.number) _ x (at-inserted same_visibility c.visibilities visibility id.number x))
    (meant-kept c (add_visibility visibility c) v (λ path x e. e)) h

pub visibility-kept-path : (c : Shown) (path : Path) (id : RawVisibilityId) (v : Visibility) → visibility_named c id ≡ Some v → visibility_named (add_path path c) id ≡ Some v
visibility-kept-path c path id v h =
    row_kept c (add_path path c) (visibility_at c.visibilities id.number) (visibility_at c.visibilities id.number) v (λ x e. e)
    (meant-kept c (add_path path c) v (λ at-id x e. path-kept c path at-id x e)) h
