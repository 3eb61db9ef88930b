-- Fields one after another.
use Rattle.std.proofs.Common.{◌≡◌, ℕ, List, [], ◌∷◌, ◌++◌, ap, ◌∙◌, append_assoc}
use Rattle.std.proofs.lemmas.Grind.{flat_map-append}
use Rattle.forms.specs.Form.{Field, number, content, field_bytes, in_bytes, Narrow}

pub bytes-append : (fs gs : List Field) (rest : List ℕ) → in_bytes (fs ++ gs) ++ rest ≡ in_bytes fs ++ (in_bytes gs ++ rest)
bytes-append fs gs rest = ap (λ l. l ++ rest) (flat_map-append field_bytes fs gs) ∙ append_assoc (in_bytes fs) (in_bytes gs) rest

pub narrow-append : (fs gs : List Field) → Narrow fs → Narrow gs → Narrow (fs ++ gs)
narrow-append [] gs p q = q
narrow-append (number n ∷ fs) gs p q = (p.0, narrow-append fs gs p.1 q)
narrow-append (content t ∷ fs) gs p q = narrow-append fs gs p q

pub narrow_left : (fs gs : List Field) → Narrow (fs ++ gs) → Narrow fs
narrow_left [] gs p = tt
narrow_left (number n ∷ fs) gs p = (p.0, narrow_left fs gs p.1)
narrow_left (content t ∷ fs) gs p = narrow_left fs gs p

pub narrow_right : (fs gs : List Field) → Narrow (fs ++ gs) → Narrow gs
narrow_right [] gs p = p
narrow_right (number n ∷ fs) gs p = narrow_right fs gs p.1
narrow_right (content t ∷ fs) gs p = narrow_right fs gs p
