use Rattle.std.proofs.Common.{sym, ◌∙◌}
use Rattle.paths.proofs.Held.{length-paths}
use Rattle.paths.proofs.interned.table.PathsKeySetModPath.key_count.Goals as goal

pub returns : goal.returns
returns c = c.len.ensures.value ∙ sym (length-paths c.args.self.now)
