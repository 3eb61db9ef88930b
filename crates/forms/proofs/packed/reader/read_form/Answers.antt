use Rattle.std.proofs.Common.{refl, inl, inr}
use Rattle.std.proofs.lemmas.Result.{err_from_is_err_and}
use Rattle.forms.specs.Reading.{Unread}
use Rattle.forms.proofs.Whole.{bad-node-count, bad-text-count, bad-nodes, bad-texts, too_long, whole-form}
use Rattle.forms.proofs.packed.reader.read_form.Goals as goal

pub returns-in_err-nodes : goal.returns-in_err-nodes
unfolding Unread
returns-in_err-nodes c =
    let p = err_from_is_err_and c.from_residual.result c.from_residual.ensures.1 in
    rw (p.1, p.2) (inl (bad-node-count c.args.bytes.now _ c.in_err-nodes.ensures.reads))

pub returns-in_err-texts : goal.returns-in_err-texts
unfolding Unread
returns-in_err-texts c =
    let p = err_from_is_err_and c.from_residual-in_err-texts.result c.from_residual-in_err-texts.ensures.1 in
    rw (p.1, p.2) (inl (bad-text-count c.args.bytes.now _ _ c.in_ok-nodes.ensures.reads _ c.in_err-texts.ensures.reads))

pub returns-in_err-at : goal.returns-in_err-at
unfolding Unread
returns-in_err-at c =
    let p = err_from_is_err_and c.from_residual-in_err-at.result c.from_residual-in_err-at.ensures.1 in
    rw (p.1, p.2) (inl (bad-nodes c.args.bytes.now _ _ c.in_ok-nodes.ensures.reads _ _ c.in_ok-texts.ensures.reads _ c.in_err-at.ensures))

pub returns-in_err-at-2 : goal.returns-in_err-at-2
unfolding Unread
returns-in_err-at-2 c =
    let p = err_from_is_err_and c.from_residual-in_err-at-2.result c.from_residual-in_err-at-2.ensures.1 in
    rw (p.1, p.2) (inl (bad-texts c.args.bytes.now _ _ c.in_ok-nodes.ensures.reads _ _ c.in_ok-texts.ensures.reads _ _ c.in_ok-at.ensures _ c.in_err-at-2.ensures))

pub returns-then-at-bytes : goal.returns-then-at-bytes
unfolding Unread
returns-then-at-bytes c =
    inr (refl, too_long c.args.bytes.now _ _ c.in_ok-nodes.ensures.reads _ _ c.in_ok-texts.ensures.reads _ _ c.in_ok-at.ensures _ _ c.in_ok-at-2.ensures c.if-at-bytes.true)

pub returns : goal.returns
returns c =
    whole-form c.args.bytes.now _ _ c.in_ok-nodes.ensures.reads _ _ c.in_ok-texts.ensures.reads _ _ c.in_ok-at.ensures _ _ c.in_ok-at-2.ensures _ c.if-at-bytes.false
