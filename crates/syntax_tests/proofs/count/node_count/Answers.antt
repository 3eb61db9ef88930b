use Rattle.std.proofs.Common.{rules, ◌∙◌}
use Rattle.syntax.proofs.Lawfulness.{file-tree}
use Rattle.syntax_tests.proofs.count.node_count.Goals as goal

pub returns : goal.returns
returns g c =
    let tree = file-tree (g.S.SyntaxSource.meaning c.args.source.now) (g.S.SyntaxSource.law c.args.source.now) in
    let root = c.node.ensures ∙ tree.first in
    let last = tree.last in
    search rules
