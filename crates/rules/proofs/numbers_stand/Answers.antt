use Rattle.rules.proofs.Numbers.{distinct-stands, numbers_stay}
use Rattle.rules.proofs.numbers_stand.Goals as goal

pub returns : goal.returns
returns c = record { distinct = distinct-stands; stay = numbers_stay }
