-- A list of nodes and its tree: each gives the other.
use Rattle.std.proofs.Common.{◌≡◌, ℕ, ◌+◌, ◌-◌, ◌++◌, length, sym, refl, ap, ◌∙◌, arith}
use Rattle.std.proofs.lemmas.List.{take_at, drop_at}
use Rattle.syntax.specs.Trees.{Siblings, none, node, size, listed, Fill, siblings}
use Rattle.syntax.proofs.Grouping.{siblings-cons, length-listed}

pub fill-size : (i end : ℕ) (t : Siblings) → Fill i end t → i + size t ≡ end
fill-size i end none h = omega arith
fill-size i end (node x children later) h = omega (arith, fill-size (i + 1) x.end children h.2, fill-size x.end end later h.3)

-- the listing of a tree has that tree
pub siblings-listed : (i end : ℕ) (t : Siblings) → Fill i end t → siblings i (listed t) ≡ t
siblings-listed i end none h = refl
siblings-listed i end (node x children later) h =
    let n : length (listed children) ≡ x.end - (i + 1) = omega (arith, length-listed children, fill-size (i + 1) x.end children h.2) in
    let front = ap (siblings (i + 1)) (take_at (listed children) (listed later) (x.end - (i + 1)) n) ∙ siblings-listed (i + 1) x.end children h.2 in
    let back = ap (siblings x.end) (drop_at (listed children) (listed later) (x.end - (i + 1)) n) ∙ siblings-listed x.end end later h.3 in
    siblings-cons i x (listed children ++ listed later) ∙ (λ k. node x (front k) (back k))

-- one tree has a listing
pub listed-one : (i d e : ℕ) (t u : Siblings) → Fill i d t → Fill i e u → listed t ≡ listed u → t ≡ u
listed-one i d e t u p q same = sym (siblings-listed i d t p) ∙ ap (siblings i) same ∙ siblings-listed i e u q
