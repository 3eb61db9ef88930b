use Rattle.std.proofs.Common.{sym, ◌∙◌}
use Rattle.forms.proofs.Texts.{within_first, within_later, texts-none, texts-bad, texts_more}
use Rattle.forms.proofs.judge.Texts.are_lawful.Goals as goal

pub text-requires : goal.text-requires
text-requires c = within_first c.args.self.bytes.now _ _ _ c.in-Some.ensures.cases.0 c.loop-first.invariant.within

pub invariant_of-is_text : goal.invariant_of-is_text
invariant_of-is_text c = record { within = within_later c.args.self.bytes.now _ _ _ c.in-Some.ensures.cases.0 c.loop-first.invariant.within }

pub returns-then-not-is_text : goal.returns-then-not-is_text
returns-then-not-is_text c =
    sym (c.loop-first.invariant.so_far ∙ texts-bad c.args.self.bytes.now _ _ _ c.in-Some.ensures.cases.0 _ c.text.ensures c.if-not-is_text.ensures)

pub loop-first-preserved : goal.loop-first-preserved
loop-first-preserved c = record {
  within = within_later c.args.self.bytes.now _ _ _ c.in-Some.ensures.cases.0 c.loop-first.invariant.within;
  so_far = c.loop-first.invariant.so_far ∙ texts_more c.args.self.bytes.now _ _ _ c.in-Some.ensures.cases.0 _ c.text.ensures c.if-not-is_text.ensures;
}

pub returns : goal.returns
returns c = sym (c.loop-first.invariant.so_far ∙ texts-none c.args.self.bytes.now c.loop-first.rest.now c.in_default.ensures.cases)
