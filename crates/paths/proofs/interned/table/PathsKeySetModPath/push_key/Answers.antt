use Rattle.std.proofs.Common.{◌<◌, ◌++◌, length, sym, refl, ap, ◌∙◌, arith}
use Rattle.std.proofs.lemmas.Result.{err_from_is_err_and}
use Rattle.tables.specs.Held.{held}
use Rattle.tables.proofs.Changes.{extended}
use Rattle.paths.proofs.Held.{length-paths, total-paths}
use Rattle.paths.proofs.Laid.{laid_more, meant_laid, laid_same, meant-same, more_is}
use Rattle.paths.specs.Kept.{paths_in}
use Rattle.paths.specs.Names.{names_of}
use Rattle.paths.proofs.interned.table.PathsKeySetModPath.push_key.Goals as goal

pub returns-then-names-room-clause-appends : goal.returns-then-names-room-clause-appends
returns-then-names-room-clause-appends c =
    let all = total-paths c.args.self.now in
    let names = ap length c.names-names.ensures in
    (λ room. let r = room.1 in omega arith, refl, refl)

pub returns-in_err-index-clause-appends : goal.returns-in_err-index-clause-appends
unfolding paths_in
returns-in_err-index-clause-appends c =
    let p = err_from_is_err_and c.from_residual.result c.from_residual.ensures.1 in
    let d = c.in_err-index.ensures.pushes in
    let n = length-paths c.args.self.now in
    rw (p.1, p.2) (λ room. let r = room.0 in let f = d.1 in omega arith, d.0, meant-same d.2 refl)

pub invariant_of-self-2 : goal.invariant_of-self-2
unfolding paths_in
invariant_of-self-2 c =
    let s = c.args.self.now in
    let key = c.args.key.now in
    let names = ap length c.names-names.ensures in
    let added = more_is (held s.parts) _ c.in_ok-index.ensures.pushes.2 c.kind.ensures in
    let laying = extended 2048 _ (held s.segments) c.names-names.result.now _ c.extend_from_slice.ensures.extends (omega arith) ∙ ap (λ ns. held s.segments ++ ns) c.names-names.ensures in
    record {
      laid = (
        laid_more (held s.parts) (held s.segments) s.laid.0 key.kind (names_of key) _ (c.new.ensures.first ∙ c.len.ensures.value) (c.new.ensures.count ∙ names) _ _ added laying c.requires,
        laid_same c.in_ok-index.ensures.marked c.extend_from_slice.ensures.marked s.laid.1,
      );
    }

pub returns-clause-appends : goal.returns-clause-appends
unfolding paths_in
returns-clause-appends c =
    let s = c.args.self.now in
    let key = c.args.key.now in
    let names = ap length c.names-names.ensures in
    let all = total-paths s in
    let count = length-paths s in
    let i = c.in_ok-index.ensures.pushes in
    let added = more_is (held s.parts) _ i.2 c.kind.ensures in
    let laying = c.in_ok-extend_from_slice.ensures.extends.1 ∙ ap (λ ns. held s.segments ++ ns) c.names-names.ensures in
    let low : length (paths_in s) < 512 = let a = i.0 in let b = i.1 in omega arith in
    ((low, omega arith), i.0 ∙ sym count, meant_laid (held s.parts) (held s.segments) s.laid.0 key.kind (names_of key) _ (c.new.ensures.first ∙ c.len.ensures.value) (c.new.ensures.count ∙ names) _ _ added laying)
