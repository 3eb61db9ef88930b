use Rattle.std.proofs.Common.{◌≡◌, length, ⊎_elim, arith}
use Rattle.std.proofs.lemmas.Result.{err_from_is_err_and}
use Rattle.std.proofs.lemmas.Bool.{cases_lt}
use Rattle.tables.proofs.Rows.{length-held-le}
use Rattle.tables.proofs.Sets.{place-below}
use Rattle.tables.specs.Held.{held}
use Rattle.items.specs.Recorded.{same_visibility}
use Rattle.items.proofs.visibility.Visibilities.record.Goals as goal

pub overflow_cast-result : goal.overflow_cast-result
overflow_cast-result c =
    let h = c.in_ok-index.ensures.inserts in
    let low = place-below same_visibility 128 (held c.args.self.now.rows) c.args.visibility c.in_ok-index.index h.1 (length-held-le c.args.self.now.rows) h.0 in
    omega arith

pub returns : goal.returns
returns c =
    let h = c.in_ok-index.ensures.inserts in
    let low = place-below same_visibility 128 (held c.args.self.now.rows) c.args.visibility c.in_ok-index.index h.1 (length-held-le c.args.self.now.rows) h.0 in
    record { records = (h.0, h.1, h.2, low); marked = c.in_ok-index.ensures.marked }

pub returns-in_err-index : goal.returns-in_err-index
returns-in_err-index c =
    let p = err_from_is_err_and c.from_residual.result c.from_residual.ensures.1 in
    let h = c.in_err-index.ensures.inserts in
    let few = length-held-le c.args.self.now.rows in
    let full : length (held c.args.self.now.rows) ≡ 128 = ⊎_elim (λ few. absurd (h.0.1 few)) (λ many. omega arith) (cases_lt (length (held c.args.self.now.rows)) 128) in
    record { records = rw (p.1, p.2) ((h.0.0, full), h.1, h.2); marked = c.in_err-index.ensures.marked }
