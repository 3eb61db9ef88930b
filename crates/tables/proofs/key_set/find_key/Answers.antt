use Rattle.std.proofs.Common.{length, refl, arith, rules}
use Rattle.std.proofs.lemmas.Iterator.{YieldsList-from_range}
use Rattle.std.proofs.lemmas.Iterator.Search.{find_from_yields_List}
use Rattle.syntax.specs.Meaning.{at}
use Rattle.tables.specs.Sets.{same_at}
use Rattle.tables.proofs.Sets.{sought}
use Rattle.tables.proofs.key_set.find_key.Goals as goal

pub returns : goal.returns
returns g c =
    let keys = g.T.KeySet.keys c.args.table.now in
    let key = g.T.KeySet.meant c.args.key.now in
    sought g.T.KeySet.same keys key c.find.result
    (find_from_yields_List (λ j. same_at g.T.KeySet.same (at keys j) key) _ _ c.find.result c.find.ensures.ran (YieldsList-from_range 0 c.key_count.result (length keys) refl (omega (arith, c.key_count.ensures))) (λ x b q k. search rules))
