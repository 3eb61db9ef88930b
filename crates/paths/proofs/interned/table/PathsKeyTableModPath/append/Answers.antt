use Rattle.paths.proofs.Held.{inserted_below}
use Rattle.paths.proofs.interned.table.PathsKeyTableModPath.append.Goals as goal

pub returns : goal.returns
returns c = (c.insert_key.ensures.marked, inserted_below c.args.self.now _ _ _ c.insert_key.ensures.inserts)
