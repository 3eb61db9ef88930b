-- What merging lists comes to.
use Rattle.std.specs.Prelude.{◌≡◌, ℕ, List, [], ◌++◌, Option}
use Rattle.items.specs.Attributes.{AttrListOf, enabled, disabled, merged}

pub record MergingLaws (A : Type 0) : Type 0 where
  pub both_enabled : (xs ys : List A) → merged (enabled xs) (enabled ys) ≡ enabled (xs ++ ys)
  pub then-disabled : (xs ys : List A) (text : Option ℕ) → merged (enabled xs) (disabled text ys) ≡ disabled text (xs ++ ys)
  -- nothing is taken behind a false condition
  pub disabled_first : (text : Option ℕ) (xs : List A) (other : AttrListOf A) → merged (disabled text xs) other ≡ disabled text xs
  -- an enabled empty list changes nothing on either side
  pub empty_first : (list : AttrListOf A) → merged (enabled []) list ≡ list
  pub empty_last : (list : AttrListOf A) → merged list (enabled []) ≡ list
  pub associative : (x y z : AttrListOf A) → merged (merged x y) z ≡ merged x (merged y z)
