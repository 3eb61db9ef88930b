-- How long what a table holds is, and what stands before its mark.
use Rattle.std.proofs.Common.{◌≡◌, ℕ, ◌≤◌, length, take, sym, ap, ◌∙◌, arith, length-take, take-take}
use Rattle.tables.specs.Held.{held, marked}
use Rattle.tables.specs.declared.table.Table.{Table}

pub length-held : {X : Type 0} {n : ℕ} (t : Table X n) → length (held t) ≡ t.len
unfolding held
length-held t = let fits = t.fits in simp length-take (omega arith)

pub length-held-le : {X : Type 0} {n : ℕ} (t : Table X n) → length (held t) ≤ n
length-held-le t = let fits = t.fits in let e = length-held t in omega arith

pub length_marked : {X : Type 0} {n : ℕ} (t : Table X n) → length (marked t) ≡ t.mark
unfolding marked
length_marked t = let fits = t.fits in simp length-take (omega arith)

pub ruleset lengths = (length-held, length_marked)

pub length-marked-le : {X : Type 0} {n : ℕ} (t : Table X n) → length (marked t) ≤ length (held t)
length-marked-le t = let fits = t.fits in let e = length-held t in let f = length_marked t in omega arith

-- what is marked is a front of what is held
pub marked-front : {X : Type 0} {n : ℕ} (t : Table X n) → marked t ≡ take (length (marked t)) (held t)
unfolding held marked
marked-front t =
    let low : t.mark ≤ t.len = let fits = t.fits in omega arith in
    sym (ap (λ k. take k (take t.len t.inner.rows)) (length_marked t) ∙ take-take t.mark t.len t.inner.rows low)
