-- The visibility of a struct's constructor.
use Rattle.std.specs.Prelude.{cond, List, [], ◌∷◌, ◌==◌}
use Rattle.syntax.specs.Children.{children, of_kind}
use Rattle.syntax.specs.Meaning.{Meaning}
use Rattle.syntax.specs.declared.kind.SyntaxKind.TheVariants.{Field}
use Rattle.syntax.specs.declared.walk.NodeRef.{NodeRef}
use Rattle.paths.specs.Spelling.{Path}
use Rattle.items.specs.Written.{Visibility, everywhere, in_crate, in_self, in_module, visibility_of}
use Rattle.rules.specs.Equality.{same_path, noted}

-- none, one visibility, or a list of Module visibilities by their paths
pub data Constructor : Type 0 where
  none : Constructor
  one : Visibility → Constructor
  all : List Path → Constructor

-- the value so far, and then a field's visibility; PubSelf is final
abbrev pub narrowed : Constructor → Visibility → Constructor
narrowed none v = none
narrowed (one (in_self e)) v = one (in_self e)
narrowed (one everywhere) v = one v
narrowed (one in_crate) (in_self e) = one (in_self e)
narrowed (one in_crate) everywhere = one in_crate
narrowed (one in_crate) in_crate = one in_crate
narrowed (one in_crate) (in_module q) = one (in_module q)
narrowed (one (in_module p)) (in_self e) = one (in_self e)
narrowed (one (in_module p)) everywhere = one (in_module p)
narrowed (one (in_module p)) in_crate = one (in_module p)
narrowed (one (in_module p)) (in_module q) = cond (same_path p q) (one (in_module p)) (all (p ∷ q ∷ []))
narrowed (all ps) (in_self e) = one (in_self e)
narrowed (all ps) everywhere = all ps
narrowed (all ps) in_crate = all ps
narrowed (all ps) (in_module q) = all (noted ps q)

-- the fields in order
abbrev pub scanned : Constructor → List Visibility → Constructor
scanned value [] = value
scanned value (v ∷ later) = scanned (narrowed value v) later

abbrev visibilities : Meaning → List NodeRef → List Visibility
visibilities m [] = []
visibilities m (x ∷ later) = visibility_of m x ∷ visibilities m later

-- of a Struct's fields, as written
abbrev pub fields_of : Meaning → NodeRef → List Visibility
fields_of m x = visibilities m (of_kind Field (children m x))

-- of a Struct: a record has none, a unit the struct's visibility
abbrev pub constructor_of : Meaning → NodeRef → Constructor
constructor_of m x =
    cond (x.node.mark == 0) none
    (cond (x.node.mark == 1) (one (visibility_of m x)) (scanned (one (visibility_of m x)) (fields_of m x)))
