use Rattle.std.proofs.Common.{◌≡◌, ℕ, ◌+◌, ◌-◌, ◌<◌, ◌≤◌, min, List, ◌++◌, length, take, drop, ap, ◌∙◌, arith, length-append, length-drop}
use Rattle.std.proofs.lemmas.List.{drop_min, take_rest}
use Rattle.std.proofs.lemmas.Result.{err_from_is_err_and}
use Rattle.tables.proofs.Rows.{length-held-le}
use Rattle.tables.specs.Held.{held}
use Rattle.tree_tables.specs.Added.{HandedOver}
use Rattle.tree_tables.specs.Contents.{shown_of, marked_of}
use Rattle.tree_tables.specs.Growth.{Became, with_children, with_ids}
use Rattle.tree_tables.proofs.tree.TreeTables.alloc_children.Goals as goal

-- the part of a slice from a place on, which may be past its end
behind : {X : Type 0} (rows all : List X) (from n : ℕ) → all ≡ rows → n ≡ min from (length all) → take (length all - n) (drop n all) ≡ drop from rows
behind rows all from n e least = take_rest all n ∙ ap (λ k. drop k all) least ∙ drop_min from all ∙ ap (drop from) e

pub returns : goal.returns
unfolding HandedOver Became marked_of
returns c =
    let s = c.args.self.now in
    let h = c.in_ok-extend_from_slice.ensures.extends.1 ∙ ap (λ ids. held s.children ++ ids) (behind (held s.ids) c.as_slice-ids.result.now c.args.from c.min.result c.as_slice-ids.ensures c.min.ensures) in
    let all : length (held c.extend_from_slice.new.self) ≡ length (held s.children) + (length (held s.ids) - c.args.from) =
    ap length h ∙ length-append (held s.children) (drop c.args.from (held s.ids)) ∙ ap (λ n. length (held s.children) + n) (length-drop c.args.from (held s.ids)) in
    let few = length-held-le c.extend_from_slice.new.self in
    let at-end = c.len-first.ensures.value in
    let first : c.part_from.result.first ≡ length (held s.children) = (let e = c.part_from.ensures.first in omega arith) in
    let count : c.part_from.result.count ≡ length (held s.ids) - c.args.from = (let e = c.part_from.ensures.count in omega arith) in
    let room : length (held s.children) + (length (held s.ids) - c.args.from) ≤ 768 = omega arith in
    record {
      past = λ m. (first, count, room, λ i. with_ids (c.truncate.ensures.past m i) (with_children (h i) (shown_of s)));
      before = λ m. (first, count, room, λ i. with_ids (c.truncate.ensures.before m i) (with_children (h i) (shown_of s)));
      marked = λ i. with_ids (c.truncate.ensures.marked i) (with_children (c.in_ok-extend_from_slice.ensures.marked i) (marked_of s));
    }

pub returns-in_err-extend_from_slice : goal.returns-in_err-extend_from_slice
unfolding HandedOver marked_of
returns-in_err-extend_from_slice c =
    let s = c.args.self.now in
    let p = err_from_is_err_and c.from_residual.result c.from_residual.ensures.1 in
    let h = c.in_err-extend_from_slice.ensures.extends in
    let full : 768 < length (held s.children) + (length (held s.ids) - c.args.from) = (let d = ap length (behind (held s.ids) c.as_slice-ids.result.now c.args.from c.min.result c.as_slice-ids.ensures c.min.ensures) ∙ length-drop c.args.from (held s.ids) in let m = h.1 in omega arith) in
    record {
      past = λ _. rw (p.1, p.2) (h.0, full);
      before = λ _. rw (p.1, p.2) (h.0, full);
      marked = λ i. with_children (c.in_err-extend_from_slice.ensures.marked i) (marked_of s);
    }
