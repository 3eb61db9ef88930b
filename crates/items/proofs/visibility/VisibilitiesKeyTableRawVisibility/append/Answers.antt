use Rattle.items.proofs.Apart.{below_limit}
use Rattle.items.proofs.visibility.VisibilitiesKeyTableRawVisibility.append.Goals as goal

pub returns : goal.returns
returns c = (c.insert_key.ensures.marked, below_limit c.args.self.now.rows _ _ _ c.insert_key.ensures.inserts)
