use Rattle.std.proofs.Common.{get_or, length, refl, ◌∙◌, rules, tests, arith}
use Rattle.std.proofs.lemmas.Iterator.{YieldsList-from_range}
use Rattle.std.proofs.lemmas.Iterator.Search.{any_from_yields_List}
use Rattle.std.proofs.lemmas.List.{get_or_read}
use Rattle.std.specs.Str.{bytes_eq}
use Rattle.forms.specs.Tables.{no_span, spanned}
use Rattle.forms.proofs.Texts.{any_placed}
use Rattle.forms.proofs.judge.Texts.has.Goals as goal

pub returns : goal.returns
returns c =
    let bytes = c.args.self.bytes.now in
    let spans = c.args.self.spans.now in
    let text = c.args.text.now in
    any_from_yields_List (λ k. bytes_eq text (spanned bytes (get_or spans k no_span))) _ _ c.any.result c.any.ensures.ran (YieldsList-from_range 0 _ (length spans) refl (omega arith)) (λ x b q k. (search (rules, tests), grind (arith, tests, get_or_read))) ∙ any_placed bytes text spans
