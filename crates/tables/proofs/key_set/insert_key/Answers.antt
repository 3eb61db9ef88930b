use Rattle.std.proofs.Common.{refl}
use Rattle.tables.proofs.Insertion.{insertion_found, insertion_appended}
use Rattle.tables.proofs.key_set.insert_key.Goals as goal

pub returns-in-Some : goal.returns-in-Some
returns-in-Some g c =
    record { inserts = insertion_found _ _ _ _ _ c.in-Some.ensures.0 c.in-Some.ensures.1; apart = g.T.KeySet.apart c.args.table.now; marked = refl }

pub returns : goal.returns
returns g c = record { inserts = insertion_appended _ _ _ _ c.push_key.result _ c.in_default.ensures c.push_key.ensures.appends; apart = g.T.KeySet.apart c.push_key.new.self; marked = c.push_key.ensures.marked }
