use Rattle.std.proofs.Common.{◌-◌, ◌≤◌, length, subst, sym, ◌∙◌, arith}
use Rattle.syntax.proofs.Walks.{walk-row, walk-stands, walk-few, walk-from}
use Rattle.syntax.proofs.walk.siblings.Goals as goal

pub returns : goal.returns
returns g c =
    let from = walk-from (g.S.SyntaxSource.meaning c.args.source.now) c.args.to _ c.args.from (omega arith) in
    record {
      walked = from;
      own = λ row. from ∙ walk-row _ _ _ row;
      stand = walk-stands _ _ _;
      few = subst (λ xs. length xs ≤ c.args.to - c.args.from) (sym from) (walk-few _ _ _);
    }
