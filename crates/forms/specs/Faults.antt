-- The refusal that a number's fault leads to.
use Rattle.syntax.specs.declared.refusal.Refusal.{Refusal}
use Rattle.syntax.specs.declared.refusal.Refusal.TheVariants.{Form, Number}
use Rattle.forms.specs.declared.number.NumberFault.{NumberFault}
use Rattle.forms.specs.declared.number.NumberFault.TheVariants.{CutShort, TooWide, NotShortest}

abbrev pub refusal_of : NumberFault → Refusal
refusal_of CutShort = Form
refusal_of TooWide = Number
refusal_of NotShortest = Number
