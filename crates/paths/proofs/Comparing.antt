-- Whether the path of a row is the path that is read.
use Rattle.std.proofs.Common.{◌≡◌, ℕ, Bool, false, List, Some, None, Option, sym, ap, ◌∙◌}
use Rattle.std.proofs.lemmas.Option.{same_Some}
use Rattle.std.specs.Bool.{Decides}
use Rattle.std.specs.Option.{option_map}
use Rattle.syntax.specs.Meaning.{at}
use Rattle.tables.specs.Held.{held}
use Rattle.tables.specs.Sets.{same_at}
use Rattle.tables.proofs.Sets.{decided}
use Rattle.paths.specs.Alike.{same_path}
use Rattle.paths.specs.Kept.{paths_in, shown}
use Rattle.paths.specs.Same.{path_equality}
use Rattle.paths.specs.Spelling.{Path}
use Rattle.paths.specs.declared.interned.InternedPath.{InternedPath}
use Rattle.paths.specs.declared.interned.Paths.{Paths}
use Rattle.paths.specs.declared.name.Name.{Name}
use Rattle.paths.proofs.Laid.{at-meant}

-- of paths of one kind, a test of their names
pub names_decide : (p q : Path) (b : Bool) (xs ys : List Name) → xs ≡ p.names → ys ≡ q.names → p.kind ≡ q.kind → Decides b (xs ≡ ys) → Decides b (p ≡ q)
names_decide p q b xs ys e f k d = (
  (λ t. let n = sym e ∙ d.0 t ∙ f in λ i. record { kind = k i; names = n i }),
  λ h. d.1 (e ∙ ap (λ (path : Path). path.names) h ∙ sym f),
)

module _ (p : Paths) (index : ℕ) (q : Path) (r : Option InternedPath) (got : r ≡ at (held p.parts) index) where
  row_at : at (paths_in p) index ≡ option_map (shown p) r
  unfolding paths_in
  row_at = at-meant (held p.parts) (held p.segments) index ∙ ap (option_map (shown p)) (sym got)

  pub no_row : r ≡ None → false ≡ same_at same_path (at (paths_in p) index) q
  no_row e = sym (ap (λ (o : Option Path). same_at same_path o q) (row_at ∙ ap (option_map (shown p)) e))

  pub row_compared : (part : InternedPath) → r ≡ Some part → (b : Bool) → Decides b (shown p part ≡ q) → b ≡ same_at same_path (at (paths_in p) index) q
  row_compared part is b d =
      let row : at (paths_in p) index ≡ Some (shown p part) = row_at ∙ ap (option_map (shown p)) is in
      decided same_path path_equality b _ q ((λ t. row ∙ ap Some (d.0 t)), λ e. d.1 (same_Some _ _ (sym row ∙ e)))
