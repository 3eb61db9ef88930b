-- The laws of merging.
use Rattle.std.proofs.Common.{◌≡◌, [], refl, ap, append_assoc, append-nil}
use Rattle.items.specs.Attributes.{AttrListOf, enabled, disabled, merged}
use Rattle.items.specs.Merging.{MergingLaws}

empty_last : {A : Type 0} (list : AttrListOf A) → merged list (enabled []) ≡ list
empty_last (enabled xs) = ap enabled (append-nil xs)
empty_last (disabled text xs) = refl

associative : {A : Type 0} (x y z : AttrListOf A) → merged (merged x y) z ≡ merged x (merged y z)
associative (disabled text xs) y z = refl
associative (enabled xs) (disabled text ys) z = refl
associative (enabled xs) (enabled ys) (enabled zs) = ap enabled (append_assoc xs ys zs)
associative (enabled xs) (enabled ys) (disabled text zs) = ap (disabled text) (append_assoc xs ys zs)

empty_first : {A : Type 0} (list : AttrListOf A) → merged (enabled []) list ≡ list
empty_first (enabled xs) = refl
empty_first (disabled text xs) = refl

pub merging_laws : (A : Type 0) → MergingLaws A
merging_laws A =
    record {
      both_enabled = λ xs ys. refl;
      then-disabled = λ xs ys text. refl;
      disabled_first = λ text xs other. refl;
      empty_first = empty_first;
      empty_last = empty_last;
      associative = associative;
    }
