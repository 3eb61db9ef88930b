-- When two recorded visibilities are alike, and what recording one answers.
use Rattle.std.specs.Prelude.{◌≡◌, ℕ, zero, suc, ◌<◌, Bool, false, ◌&&◌, List, length, Result, MatchResult, ◌==◌, refl}
use Rattle.std.proofs.Common.{sym, ap, ◌∙◌, eqb-true, eq-eqb}
use Rattle.syntax.specs.declared.refusal.Refusal.{Refusal}
use Rattle.syntax.specs.declared.refusal.Refusal.TheVariants.{TableFull}
use Rattle.tables.specs.Both.{and_left, and_right}
use Rattle.tables.specs.Sets.{Equality, Equivalence, equality_equivalence, has, place, inserted}
use Rattle.items.specs.declared.ids.RawVisibilityId.{RawVisibilityId}
use Rattle.items.specs.declared.visibility.RawVisibility.{RawVisibility}
use Rattle.items.specs.declared.visibility.RawVisibility.TheVariants.{Module, PubSelf, PubCrate, Public}
use Rattle.items.specs.declared.visibility.VisibilityExplicitness.TheVariants.{Explicit, Implicit}

-- a number for each form, and one for the path
abbrev form_number : RawVisibility → ℕ
form_number Public = 0
form_number PubCrate = 1
form_number (PubSelf Explicit) = 2
form_number (PubSelf Implicit) = 3
form_number (Module path Explicit) = 4
form_number (Module path Implicit) = 5

abbrev path_number : RawVisibility → ℕ
path_number Public = 0
path_number PubCrate = 0
path_number (PubSelf e) = 0
path_number (Module path e) = path.number

unfoldable pub same_visibility : RawVisibility → RawVisibility → Bool
same_visibility a b = form_number a == form_number b && path_number a == path_number b

-- at most 128 are recorded
abbrev pub RoomFor : List RawVisibility → RawVisibility → Type 0
RoomFor rows visibility = length rows < 128

-- the number of the equal visibility, or of the visibility at the end; refused exactly where none is equal and 128 are held
abbrev pub Recorded : List RawVisibility → RawVisibility → Result RawVisibilityId Refusal → List RawVisibility → Type 0
Recorded old visibility r new =
    MatchResult r
    (λ id. (has same_visibility old visibility ≡ false → length old < 128) × (id.number ≡ place same_visibility old visibility) × (new ≡ inserted same_visibility old visibility) × (id.number < 128))
    (λ e. ((has same_visibility old visibility ≡ false) × (length old ≡ 128)) × (e ≡ TableFull) × (new ≡ old))

-- ---- only equal visibilities are alike
of_numbers : ℕ → ℕ → RawVisibility
of_numbers zero n = Public
of_numbers (suc zero) n = PubCrate
of_numbers (suc (suc zero)) n = PubSelf Explicit
of_numbers (suc (suc (suc zero))) n = PubSelf Implicit
of_numbers (suc (suc (suc (suc zero)))) n = Module (record { number = n }) Explicit
of_numbers (suc (suc (suc (suc (suc m))))) n = Module (record { number = n }) Implicit

visibility-back : (v : RawVisibility) → of_numbers (form_number v) (path_number v) ≡ v
unfolding of_numbers
visibility-back Public = refl
visibility-back PubCrate = refl
visibility-back (PubSelf Explicit) = refl
visibility-back (PubSelf Implicit) = refl
visibility-back (Module path Explicit) = refl
visibility-back (Module path Implicit) = refl

pub visibility_equality : Equality same_visibility
unfolding same_visibility
visibility_equality = record {
  itself = λ v. ap (λ b. b && path_number v == path_number v) (eq-eqb (form_number v) (form_number v) refl) ∙ eq-eqb (path_number v) (path_number v) refl;
  only = λ v w e.
      let m = eqb-true (form_number v) (form_number w) (and_left (form_number v == form_number w) (path_number v == path_number w) e) in
      let n = eqb-true (path_number v) (path_number w) (and_right (form_number v == form_number w) (path_number v == path_number w) e) in
      sym (visibility-back v) ∙ (λ i. of_numbers (m i) (n i)) ∙ visibility-back w;
}

pub visibility_equivalence : Equivalence same_visibility
visibility_equivalence = equality_equivalence visibility_equality
