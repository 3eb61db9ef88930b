use Rattle.std.proofs.Common.{sym, ◌∙◌, rules, tests}
use Rattle.std.proofs.lemmas.Iterator.Adapters.{option_map_id}
use Rattle.std.proofs.lemmas.Iterator.Consumers.{YieldsList-from_first}
use Rattle.std.proofs.lemmas.Iterator.Search.{find_from_yields_List}
use Rattle.syntax.specs.Table.{is}
use Rattle.syntax.proofs.walk.child_of_kind.Goals as goal

pub returns-clause-first : goal.returns-clause-first
returns-clause-first g c stands =
    let all = YieldsList-from_first (λ x. x) (λ rest. rest) _ (c.children.ensures.own stands) in
    sym (option_map_id c.find.result)
    ∙ find_from_yields_List (λ x. is c.args.kind x.node.kind) _ _ c.find.result c.find.ensures.ran all (λ x b q k. search (rules, tests))
