-- Looking for the first private field.
use Rattle.std.proofs.Common.{◌≡◌, true, false, List, ◌∷◌, None, Option, sym, refl, ap, ◌∙◌}
use Rattle.std.specs.Option.{option_or}
use Rattle.std.proofs.lemmas.Bool.{cond-true, cond-false}
use Rattle.syntax.specs.Children.{of_kind}
use Rattle.syntax.specs.Meaning.{Meaning}
use Rattle.syntax.specs.Table.{is}
use Rattle.syntax.specs.declared.kind.SyntaxKind.TheVariants.{Field}
use Rattle.syntax.specs.declared.walk.NodeRef.{NodeRef}
use Rattle.items.specs.Written.{visibility_of, meant_visibility, private_of, first_private}
use Rattle.items.specs.declared.visibility.VisibilityExplicitness.{VisibilityExplicitness}
use Rattle.items.specs.declared.visibility.WrittenVisibility.{WrittenVisibility}
use Rattle.items.specs.declared.visibility.WrittenVisibility.TheVariants.{Module, PubSelf, PubCrate, Public}

not-private : (w : WrittenVisibility) → ((explicitness : VisibilityExplicitness) → w ≡ PubSelf explicitness → ⊥) → private_of (meant_visibility w) ≡ None
not-private (Module path) other = refl
not-private (PubSelf explicitness) other = absurd (other explicitness refl)
not-private PubCrate other = refl
not-private Public other = refl

-- what is found among the children x and the later ones
module _ (m : Meaning) (found : Option VisibilityExplicitness) (xs : List NodeRef) (same : first_private m (of_kind Field xs) ≡ found) (x : NodeRef) (later : List NodeRef) (steps : xs ≡ x ∷ later) where
  pub fields_skip : is Field x.node.kind ≡ false → first_private m (of_kind Field later) ≡ found
  fields_skip other = sym (ap (λ xs. first_private m (of_kind Field xs)) steps ∙ ap (first_private m) (cond-false _ _ _ other)) ∙ same

  fields-field : is Field x.node.kind ≡ true → option_or (private_of (visibility_of m x)) (first_private m (of_kind Field later)) ≡ found
  fields-field field =
      sym (ap (λ xs. first_private m (of_kind Field xs)) steps ∙ ap (first_private m) (cond-true _ _ _ field)) ∙ same

  pub fields_open : is Field x.node.kind ≡ true → (w : WrittenVisibility) → meant_visibility w ≡ visibility_of m x → ((explicitness : VisibilityExplicitness) → w ≡ PubSelf explicitness → ⊥) → first_private m (of_kind Field later) ≡ found
  fields_open e w meaning other =
      sym (ap (λ o. option_or o (first_private m (of_kind Field later))) (sym (ap private_of meaning) ∙ not-private w other)) ∙ fields-field e
