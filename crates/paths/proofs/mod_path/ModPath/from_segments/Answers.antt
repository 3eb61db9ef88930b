use Rattle.std.proofs.Common.{◌++◌, length, take, ap, ◌∙◌, arith, length-take}
use Rattle.std.proofs.lemmas.List.{take_min}
use Rattle.tables.proofs.Changes.{extended}
use Rattle.paths.proofs.mod_path.ModPath.from_segments.Goals as goal

pub returns-clause-names : goal.returns-clause-names
returns-clause-names c =
    let all = c.args.names.now in
    let none = c.from_kind-path.ensures.1 in
    let few = ap length none in
    let front = length-take c.min-count.result all in
    let least = c.min-count.ensures in
    extended 64 _ _ (take c.min-count.result all) _ c.extend_from_slice.ensures.extends (omega arith) ∙ ap (λ ns. ns ++ take c.min-count.result all) none ∙ ap (λ k. take k all) least ∙ take_min 64 all
