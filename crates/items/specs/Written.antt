-- The visibility that is written on a node.
use Rattle.std.specs.Prelude.{cond, List, [], ◌∷◌, Some, None, Option, ◌==◌}
use Rattle.std.specs.Option.{option_or}
use Rattle.syntax.specs.Children.{children, of_kind, child_of}
use Rattle.syntax.specs.Meaning.{Meaning}
use Rattle.syntax.specs.declared.kind.SyntaxKind.TheVariants.{Vis, Path as PathNode, Field}
use Rattle.syntax.specs.declared.walk.NodeRef.{NodeRef}
use Rattle.paths.specs.Reading.{path_of, meant}
use Rattle.paths.specs.Spelling.{Path}
use Rattle.paths.specs.declared.mod_path.PathKind.TheVariants.{Super}
use Rattle.items.specs.declared.visibility.VisibilityExplicitness.{VisibilityExplicitness}
use Rattle.items.specs.declared.visibility.VisibilityExplicitness.TheVariants.{Explicit, Implicit}
use Rattle.items.specs.declared.visibility.WrittenVisibility.{WrittenVisibility}
use Rattle.items.specs.declared.visibility.WrittenVisibility.TheVariants.{Module, PubSelf, PubCrate, Public}

-- a visibility by what it means: a module is named by its path
pub data Visibility : Type 0 where
  everywhere : Visibility
  in_crate : Visibility
  in_self : VisibilityExplicitness → Visibility
  in_module : Path → Visibility

-- `pub(in path)`; without a readable path as if nothing were written
abbrev pub restricted : Option Path → Visibility
restricted None = in_self Implicit
restricted (Some p) = in_module p

abbrev pub path_in : Meaning → Option NodeRef → Option Path
path_in m None = None
path_in m (Some x) = path_of m x

-- of a Vis node, by its mark
abbrev pub marked_visibility : Meaning → NodeRef → Visibility
marked_visibility m vis =
    cond (vis.node.mark == 0) everywhere
    (cond (vis.node.mark == 1) in_crate
    (cond (vis.node.mark == 2) (in_module (record { kind = Super 1; names = [] }))
    (cond (vis.node.mark == 3) (in_self Explicit) (restricted (path_in m (child_of PathNode m vis))))))

abbrev of_vis : Meaning → Option NodeRef → Visibility
of_vis m None = in_self Implicit
of_vis m (Some vis) = marked_visibility m vis

-- of an item or a field
abbrev pub visibility_of : Meaning → NodeRef → Visibility
visibility_of m x = of_vis m (child_of Vis m x)

-- what a visibility that was read means
abbrev pub meant_visibility : WrittenVisibility → Visibility
meant_visibility (Module path) = in_module (meant path)
meant_visibility (PubSelf explicitness) = in_self explicitness
meant_visibility PubCrate = in_crate
meant_visibility Public = everywhere

-- how a private visibility is written
abbrev pub private_of : Visibility → Option VisibilityExplicitness
private_of everywhere = None
private_of in_crate = None
private_of (in_self explicitness) = Some explicitness
private_of (in_module path) = None

-- of the first that is private
abbrev pub first_private : Meaning → List NodeRef → Option VisibilityExplicitness
first_private m [] = None
first_private m (x ∷ later) = option_or (private_of (visibility_of m x)) (first_private m later)

abbrev pub private_field : Meaning → NodeRef → Option VisibilityExplicitness
private_field m x = first_private m (of_kind Field (children m x))
