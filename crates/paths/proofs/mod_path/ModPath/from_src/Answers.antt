use Rattle.std.proofs.Common.{eqb, length, ap, ◌∙◌, arith}
use Rattle.syntax.proofs.Rows.{path-count}
use Rattle.paths.specs.Reading.{read_as, segments_of}
use Rattle.paths.proofs.mod_path.ModPath.from_src.Goals as goal

pub returns : goal.returns
returns g c stands kind =
    let own = c.children.ensures.own stands in
    let count = path-count _ c.args.path (g.S.SyntaxSource.law c.args.source.now) stands kind in
    c.spelled.ensures (omega (arith, count.1, ap length own)) ∙ ap (λ xs. read_as (eqb c.args.path.node.mark 1) (segments_of xs)) own
