use Rattle.std.proofs.Common.{sym, ap, ◌∙◌}
use Rattle.std.specs.Option.{option_map}
use Rattle.paths.proofs.Laid.{at-meant, some_laid}
use Rattle.paths.specs.Kept.{paths_in, shown}
use Rattle.paths.proofs.interned.Paths.get.Goals as goal

pub returns : goal.returns
unfolding paths_in
returns c =
    let s = c.args.self.now in
    record { row = c.get.ensures; path = ap (option_map (shown s)) c.get.ensures ∙ sym (at-meant _ _ _); len = some_laid _ _ s.laid.0 _ _ c.get.ensures }
