-- The attribute list of a node, and one list put before another.
use Rattle.std.specs.Prelude.{ℕ, cond, List, [], ◌∷◌, ◌++◌, Some, None, Option, ◌==◌}
use Rattle.std.specs.Option.{option_map}
use Rattle.syntax.specs.Children.{children, of_kind, child_of}
use Rattle.syntax.specs.Meaning.{Meaning}
use Rattle.syntax.specs.declared.kind.SyntaxKind.TheVariants.{Path as PathNode, Attr as AttrNode}
use Rattle.syntax.specs.declared.node.Node.{Node}
use Rattle.syntax.specs.declared.walk.NodeRef.{NodeRef}
use Rattle.paths.specs.Reading.{path_of}
use Rattle.paths.specs.Spelling.{Path}
use Rattle.paths.specs.declared.mod_path.PathKind.TheVariants.{Plain}
use Rattle.paths.specs.declared.name.Name.TheVariants.{Missing}
use Rattle.items.specs.declared.attrs.AttrInput.{AttrInput}
use Rattle.items.specs.declared.attrs.AttrInput.TheVariants.{Literal, TokenTree}

-- an attribute by what it means; its context is 0
pub record Attribute : Type 0 where
  pub path : Path
  pub input : Option AttrInput

-- entries of a list, and the text of the false condition that ended them, if one did
pub data AttrListOf (A : Type 0) : Type 0 where
  enabled : List A → AttrListOf A
  disabled : Option ℕ → List A → AttrListOf A

abbrev pub AttrList : Type 0
AttrList = AttrListOf Attribute

-- `[missing name]`
abbrev pub missing_path : Path
missing_path = record { kind = Plain; names = Missing ∷ [] }

abbrev or_missing : Option Path → Path
or_missing None = missing_path
or_missing (Some p) = p

abbrev path_in : Meaning → Option NodeRef → Path
path_in m None = missing_path
path_in m (Some x) = or_missing (path_of m x)

-- text 0 is none
abbrev pub text_of : Node → Option ℕ
text_of x = cond (x.text == 0) None (Some x.text)

-- marks 1 and 2 have an input
abbrev pub input_of : Node → Option AttrInput
input_of x = cond (x.mark == 1) (option_map Literal (text_of x)) (cond (x.mark == 2) (option_map TokenTree (text_of x)) None)

abbrev pub attribute_of : Meaning → NodeRef → Attribute
attribute_of m x = record { path = path_in m (child_of PathNode m x); input = input_of x.node }

abbrev pub before : Attribute → AttrList → AttrList
before a (enabled xs) = enabled (a ∷ xs)
before a (disabled text xs) = disabled text (a ∷ xs)

-- of Attr nodes in order: mark 3 is a true condition, mark 4 a false one
abbrev pub collected : Meaning → List NodeRef → AttrList
collected m [] = enabled []
collected m (x ∷ later) =
    cond (x.node.mark == 3) (collected m later)
    (cond (x.node.mark == 4) (disabled (text_of x.node) []) (before (attribute_of m x) (collected m later)))

-- of an item, or of the root for the top level
abbrev pub attributes_of : Meaning → NodeRef → AttrList
attributes_of m x = collected m (of_kind AttrNode (children m x))

-- one list put before another: nothing is taken behind a false condition
abbrev after : {A : Type 0} → List A → AttrListOf A → AttrListOf A
after xs (enabled ys) = enabled (xs ++ ys)
after xs (disabled text ys) = disabled text (xs ++ ys)

abbrev pub merged : {A : Type 0} → AttrListOf A → AttrListOf A → AttrListOf A
merged (enabled xs) other = after xs other
merged (disabled text xs) other = disabled text xs
