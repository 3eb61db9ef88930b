use Rattle.std.proofs.Common.{arith}
use Rattle.std.proofs.lemmas.Result.{err_from_is_err_and}
use Rattle.paths.proofs.Held.{marked_rows, place-below}
use Rattle.paths.specs.Kept.{read_path}
use Rattle.paths.proofs.interned.Paths.intern.Goals as goal

pub overflow_cast-result : goal.overflow_cast-result
overflow_cast-result c =
    let h = c.in_ok-index.ensures.inserts in
    let low = place-below c.args.self.now (read_path c.args.path.now) c.in_ok-index.index h.1 (λ n. (h.0 n).0) in
    omega arith

pub returns : goal.returns
returns c =
    let h = c.in_ok-index.ensures.inserts in
    let low = place-below c.args.self.now (read_path c.args.path.now) c.in_ok-index.index h.1 (λ n. (h.0 n).0) in
    record { interns = (h.0, h.1, h.2, low); marked = marked_rows _ _ c.in_ok-index.ensures.marked; marked_rows = c.in_ok-index.ensures.marked }

pub returns-in_err-index : goal.returns-in_err-index
returns-in_err-index c =
    let p = err_from_is_err_and c.from_residual.result c.from_residual.ensures.1 in
    record { interns = rw (p.1, p.2) c.in_err-index.ensures.inserts; marked = marked_rows _ _ c.in_err-index.ensures.marked; marked_rows = c.in_err-index.ensures.marked }
