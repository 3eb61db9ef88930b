-- The alias that is written on an import.
use Rattle.std.specs.Option.{option_map}
use Rattle.std.specs.Prelude.{Some, None, Option}
use Rattle.syntax.specs.Children.{child_of}
use Rattle.syntax.specs.Meaning.{Meaning}
use Rattle.syntax.specs.declared.kind.SyntaxKind.TheVariants.{Rename}
use Rattle.syntax.specs.declared.walk.NodeRef.{NodeRef}
use Rattle.paths.specs.Names.{name_of}
use Rattle.paths.specs.declared.name.Name.{Name}
use Rattle.items.specs.declared.use_tree.ImportAlias.{ImportAlias}
use Rattle.items.specs.declared.use_tree.ImportAlias.TheVariants.{Underscore, Alias}

-- `as _` has no name
abbrev pub alias_named : Option Name → ImportAlias
alias_named None = Underscore
alias_named (Some n) = Alias n

-- the name of its Rename child
abbrev pub alias_of : Meaning → NodeRef → Option ImportAlias
alias_of m x = option_map (λ (rename : NodeRef). alias_named (name_of rename.node.text)) (child_of Rename m x)
