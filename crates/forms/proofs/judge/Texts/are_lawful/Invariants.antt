use Rattle.std.proofs.Common.{◌≡◌, length}
use Rattle.syntax.specs.Law.{lawful_texts}
use Rattle.forms.specs.Tables.{SpansWithin, spanned_all}
use Rattle.forms.proofs.judge.Texts.are_lawful.Given as goal

abbrev pub invariant-loop-first : goal.invariant-loop-first
invariant-loop-first l = record {
  within : SpansWithin l.rest (length l.rest) (length l.bytes);
  so_far : lawful_texts (spanned_all l.bytes l.self.spans.now) ≡ lawful_texts (spanned_all l.bytes l.rest);
}

abbrev pub decreases-loop-first : goal.decreases-loop-first
decreases-loop-first l = length l.rest
