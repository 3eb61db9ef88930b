use Rattle.std.proofs.lemmas.Result.{err_from_is_err_and}
use Rattle.forms.proofs.Codes.{bad-number, good_number, node_fails, node-stands}
use Rattle.forms.proofs.packed.reader.NodePacked.read.Goals as goal

pub returns-in_err-kind : goal.returns-in_err-kind
returns-in_err-kind c =
    let p = err_from_is_err_and c.from_residual.result c.from_residual.ensures.1 in
    rw (p.1, p.2) (node_fails _ _ (bad-number 5 _ _ c.in_err-kind.ensures.reads))

pub returns-in_err-end : goal.returns-in_err-end
returns-in_err-end c =
    let p = err_from_is_err_and c.from_residual-in_err-end.result c.from_residual-in_err-end.ensures.1 in
    rw (p.1, p.2) (node_fails _ _ (good_number 5 c.args.bytes.now _ _ _ _ c.in_ok-kind.ensures.reads (bad-number 4 _ _ c.in_err-end.ensures.reads)))

pub returns-in_err-text : goal.returns-in_err-text
returns-in_err-text c =
    let p = err_from_is_err_and c.from_residual-in_err-text.result c.from_residual-in_err-text.ensures.1 in
    rw (p.1, p.2) (node_fails _ _ (good_number 5 c.args.bytes.now _ _ _ _ c.in_ok-kind.ensures.reads (good_number 4 c.args.bytes.now _ _ _ _ c.in_ok-end.ensures.reads (bad-number 3 _ _ c.in_err-text.ensures.reads))))

pub returns-in_err-mark : goal.returns-in_err-mark
returns-in_err-mark c =
    let p = err_from_is_err_and c.from_residual-in_err-mark.result c.from_residual-in_err-mark.ensures.1 in
    rw (p.1, p.2) (node_fails _ _ (good_number 5 c.args.bytes.now _ _ _ _ c.in_ok-kind.ensures.reads (good_number 4 c.args.bytes.now _ _ _ _ c.in_ok-end.ensures.reads (good_number 3 c.args.bytes.now _ _ _ _ c.in_ok-text.ensures.reads (bad-number 2 _ _ c.in_err-mark.ensures.reads)))))

pub returns-in_err-from : goal.returns-in_err-from
returns-in_err-from c =
    let p = err_from_is_err_and c.from_residual-in_err-from.result c.from_residual-in_err-from.ensures.1 in
    rw (p.1, p.2) (node_fails _ _ (good_number 5 c.args.bytes.now _ _ _ _ c.in_ok-kind.ensures.reads (good_number 4 c.args.bytes.now _ _ _ _ c.in_ok-end.ensures.reads (good_number 3 c.args.bytes.now _ _ _ _ c.in_ok-text.ensures.reads (good_number 2 c.args.bytes.now _ _ _ _ c.in_ok-mark.ensures.reads (bad-number 1 _ _ c.in_err-from.ensures.reads))))))

pub returns-in_err-to : goal.returns-in_err-to
returns-in_err-to c =
    let p = err_from_is_err_and c.from_residual-in_err-to.result c.from_residual-in_err-to.ensures.1 in
    rw (p.1, p.2) (node_fails _ _ (good_number 5 c.args.bytes.now _ _ _ _ c.in_ok-kind.ensures.reads (good_number 4 c.args.bytes.now _ _ _ _ c.in_ok-end.ensures.reads (good_number 3 c.args.bytes.now _ _ _ _ c.in_ok-text.ensures.reads (good_number 2 c.args.bytes.now _ _ _ _ c.in_ok-mark.ensures.reads (good_number 1 c.args.bytes.now _ _ _ _ c.in_ok-from.ensures.reads (bad-number 0 _ _ c.in_err-to.ensures.reads)))))))

pub returns : goal.returns
returns c =
    (node-stands c.args.bytes.now _ _ _ _ _ _ _ _ c.in_ok-kind.ensures.reads c.in_ok-end.ensures.reads c.in_ok-text.ensures.reads c.in_ok-mark.ensures.reads c.in_ok-from.ensures.reads c.in_ok-to.ensures.reads, tt)
