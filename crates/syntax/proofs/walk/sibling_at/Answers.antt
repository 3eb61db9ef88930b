use Rattle.std.proofs.Common.{sym, refl}
use Rattle.syntax.proofs.Rows.{row-none, row-some, row_first, row-outside}
use Rattle.syntax.proofs.Walks.{walk-past, walk-absent, walk_outside, walk_first}
use Rattle.syntax.proofs.walk.sibling_at.Goals as goal

pub returns-then-at-end : goal.returns-then-at-end
returns-then-at-end g c =
    record { bounds = tt; first = λ row. row-none _ _ _ row c.if-at-end.true; walk = walk-past _ _ _ c.if-at-end.true }

pub returns-in_default : goal.returns-in_default
returns-in_default g c = record {
  bounds = tt;
  first = λ row. absurd (row-some _ _ _ row c.if-at-end.false (sym c.in_default.ensures));
  walk = walk-absent _ _ _ (sym c.in_default.ensures);
}

pub returns-then-node-at : goal.returns-then-node-at
returns-then-node-at g c = record {
  bounds = tt;
  first = row-outside _ _ _ _ c.if-at-end.false (sym c.in-Some.ensures) c.then-node-at.either;
  walk = walk_outside _ _ _ _ (sym c.in-Some.ensures) c.then-node-at.either;
}

pub returns : goal.returns
returns g c = record {
  bounds = (refl, c.if-node-at.false, c.if-node-end.false);
  first = λ row. (row_first _ _ _ _ row c.if-at-end.false (sym c.in-Some.ensures)).2;
  walk = walk_first _ _ _ _ (sym c.in-Some.ensures) c.if-node-at.false c.if-node-end.false;
}
