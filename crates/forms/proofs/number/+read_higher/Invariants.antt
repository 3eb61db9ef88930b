use Rattle.forms.proofs.number.+read_higher.Given as goal

abbrev pub decreases-read_higher : goal.decreases-read_higher
decreases-read_higher l = l.more
