use Rattle.std.proofs.Common.{◌≡◌, true, sym, ap, ◌∙◌, rules}
use Rattle.tables.proofs.Sets.{two_ways}
use Rattle.paths.proofs.Comparing.{names_decide, no_row, row_compared}
use Rattle.paths.specs.Kept.{read_path, shown}
use Rattle.paths.specs.Spelling.{Path}
use Rattle.paths.proofs.interned.table.PathsKeySetModPath.is_alike.Goals as goal

pub returns-in_default : goal.returns-in_default
returns-in_default c = no_row c.args.self.now c.args.index (read_path c.args.key.now) _ c.get.ensures c.in_default.is

pub returns-then-eq : goal.returns-then-eq
returns-then-eq c =
    let s = c.args.self.now in
    let key = read_path c.args.key.now in
    let part = c.in-Some.part in
    let same : part.kind ≡ c.kind.result = search rules in
    row_compared s c.args.index key _ c.get.ensures part c.in-Some.is _ (names_decide (shown s part) key _ _ _ c.names.ensures c.names-then-eq.ensures (same ∙ c.kind.ensures) c.same_names.ensures)

pub returns-else-eq : goal.returns-else-eq
returns-else-eq c =
    let same : c.in-Some.part.kind ≡ c.kind.result → c.eq.result ≡ true = search rules in
    row_compared c.args.self.now c.args.index (read_path c.args.key.now) _ c.get.ensures c.in-Some.part c.in-Some.is _
    (λ t. two_ways (sym t ∙ c.if-eq.false), λ e. same (ap (λ (p : Path). p.kind) e ∙ sym c.kind.ensures))
