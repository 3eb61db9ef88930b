use Rattle.std.proofs.Common.{◌≡◌}
use Rattle.std.specs.List.{All}
use Rattle.syntax.specs.Children.{StandsIn, of_kind}
use Rattle.syntax.specs.declared.kind.SyntaxKind.TheVariants.{Field}
use Rattle.items.specs.Written.{first_private, private_field}
use Rattle.lower.proofs.visibility.private_field.Given as goal

-- the first that is private is the first of those that are left
abbrev pub invariant-loop-child : goal.invariant-loop-child
invariant-loop-child g l =
    let m = g.S.SyntaxSource.meaning l.source in
    (goal.iterator-loop-child g).can_next l.child-iterator
    × (goal.iterator-loop-child g).is_finite l.child-iterator
    × All (StandsIn m) l.child-iterator
    × (StandsIn m l.fn.strukt → first_private m (of_kind Field l.child-iterator) ≡ private_field m l.fn.strukt)
