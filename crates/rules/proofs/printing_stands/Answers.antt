use Rattle.rules.proofs.Levels.{levels-back, texts_end}
use Rattle.rules.proofs.printing_stands.Goals as goal

pub returns : goal.returns
returns c = record { levels = levels-back; ending = texts_end }
