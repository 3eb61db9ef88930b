-- The law of siblings, one node at a time, and of the root.
use Rattle.std.proofs.Common.{◌≡◌, ℕ, zero, suc, ◌+◌, ◌-◌, ◌<◌, ◌≤◌, Bool, true, false, ◌&&◌, eqb, leb, ◌⊎◌, ◌≢◌, List, [], ◌∷◌, length, get_or, sym, refl, ap, ◌∙◌, ⊎_elim, arith}
use Rattle.std.proofs.lemmas.List.{take_rest}
use Rattle.std.proofs.lemmas.Bool.{cases_lt, lt-leb, eq-eqb, ne_eqb, and_left, and_right}
use Rattle.syntax.specs.declared.node.Node.{Node}
use Rattle.syntax.specs.declared.kind.SyntaxKind.{SyntaxKind}
use Rattle.syntax.specs.declared.kind.SyntaxKind.TheVariants.{File, Struct, Union, Enum, Fn, TypeAlias, Static, Const, Module, Trait, Impl, Use, ExternCrate, MacroCall, MacroRules, MacroDef, ExternBlock, AsmExpr, Vis, Path, Segment, UseTree, Rename, Field, Attr}
use Rattle.syntax.specs.Kinds.{number_of, is_item}
use Rattle.syntax.specs.Table.{is, mark_fits, takes, place_of, count_fits}
use Rattle.syntax.specs.Trees.{Siblings, none, node, size, siblings, between}
use Rattle.syntax.specs.Law.{sound, is_child, place_after, are_children, is_file, lawful_nodes}
use Rattle.syntax.proofs.Grouping.{children_any, later_any, between_any, size_any, between_first, size-children, between_none, size-siblings}

-- no node of a number that is no kind's is sound
not_item : (k : ℕ) → ((kind : SyntaxKind) → number_of kind ≢ k) → is_item k ≡ false
not_item k other =
    let past : (n : ℕ) → (n ≢ k) → n ≤ k → n + 1 ≤ k = λ n apart least. omega arith in
    ⊎_elim
    (λ low. and_left (leb 10 k) _ (lt-leb 10 k low))
    (λ least. and_right (leb 10 k) _ (lt-leb k 26 (past 26 (other AsmExpr) (past 25 (other ExternBlock) (past 24 (other MacroDef) (past 23 (other MacroRules) (past 22 (other MacroCall) (past 21 (other ExternCrate) (past 20 (other Use) (past 19 (other Impl) (past 18 (other Trait) (past 17 (other Module) (past 16 (other Const) (past 15 (other Static) (past 14 (other TypeAlias) (past 13 (other Fn) (past 12 (other Enum) (past 11 (other Union) (past 10 (other Struct) least)))))))))))))))))))
    (cases_lt k 10)

pub no_kind : (texts : ℕ) (x : Node) → ((kind : SyntaxKind) → number_of kind ≢ x.kind) → sound texts x ≡ false
unfolding sound
no_kind texts x other =
    let not : (kind : SyntaxKind) → is kind x.kind ≡ false = λ kind. ne_eqb x.kind (number_of kind) (λ e. other kind (sym e)) in
    rw (not Struct, not Module, not Impl, not Path, not MacroCall, not Vis, not Segment, not Attr, not UseTree, not File, not_item x.kind other, not Rename, not Field) refl

-- what is asked of a node by its kind
pub sound_by : (texts : ℕ) (x : Node) (kind : SyntaxKind) (fits : Bool) → number_of kind ≡ x.kind → fits ≡ mark_fits (number_of kind) x.mark → sound texts x ≡ (fits && (leb x.text texts && leb x.from x.to))
unfolding sound
sound_by texts x kind fits e f = (λ i. mark_fits (sym e i) x.mark && (leb x.text texts && leb x.from x.to)) ∙ (λ i. sym f i && (leb x.text texts && leb x.from x.to))

pub child_by : (texts : ℕ) (parent : Node) (least : ℕ) (x : Node) (above kind : SyntaxKind) (y : Node) (takes_it : Bool) → number_of above ≡ parent.kind → number_of kind ≡ y.kind → (y ≡ x) × (sound texts x ≡ true) → takes_it ≡ takes (number_of above) parent.mark (number_of kind) → is_child texts parent least x ≡ (takes_it && leb least (place_of (number_of kind)))
unfolding is_child
child_by texts parent least x above kind y takes_it p q s t =
    let e : number_of kind ≡ x.kind = q ∙ (λ i. (s.0 i).kind) in
    (λ i. s.1 i && (takes (sym p i) parent.mark (sym e i) && leb least (place_of (sym e i)))) ∙ (λ i. sym t i && leb least (place_of (number_of kind)))

pub children-none : (texts : ℕ) (parent : Node) (least count levels : ℕ) (xs : List Node) (i end : ℕ) → i ≡ end → are_children texts parent least count levels i (between xs i end) ≡ count_fits parent.kind parent.mark count
children-none texts parent least count levels xs i end e = ap (λ k. are_children texts parent least count levels i (between xs i k)) (sym e) ∙ ap (are_children texts parent least count levels i) (between_none xs i)

module _ (texts : ℕ) (parent : Node) (least count : ℕ) (xs : List Node) (d : Node) (i end : ℕ) (some : i < end) (in_List : end ≤ length xs) where
  abbrev x : Node
  x = get_or xs i d

  -- the first node breaks the law
  pub bad-levels : (levels : ℕ) → levels ≡ 0 → are_children texts parent least count levels i (between xs i end) ≡ false
  bad-levels zero z = ap (are_children texts parent least count 0 i) (between_any xs d i end some in_List)
  bad-levels (suc levels) z = absurd (omega arith)

  pub bad_end : (levels : ℕ) → (x.end ≤ i) ⊎ (end < x.end) → are_children texts parent least count levels i (between xs i end) ≡ false
  bad_end zero h = bad-levels zero refl
  bad_end (suc levels) h =
      let other : x.end ≡ i + 1 + size (children_any xs d i end some in_List) → ⊥ = λ same. ⊎_elim (λ l. omega (arith, size_any xs d i end some in_List)) (λ l. omega (arith, size_any xs d i end some in_List)) h in
      ap (are_children texts parent least count (suc levels) i) (between_any xs d i end some in_List) ∙ and_left _ _ (ne_eqb _ _ other)

  pub bad_child : (levels : ℕ) → is_child texts parent least x ≡ false → are_children texts parent least count levels i (between xs i end) ≡ false
  bad_child zero h = bad-levels zero refl
  bad_child (suc levels) h =
      ap (are_children texts parent least count (suc levels) i) (between_any xs d i end some in_List) ∙ and_right (eqb x.end _) _ (and_left (is_child texts parent least x) _ h)

  -- it does not: what is left to ask
  pub good_child : (levels : ℕ) → 0 < levels → i < x.end → x.end ≤ end → is_child texts parent least x ≡ true
      → are_children texts parent least count levels i (between xs i end)
      ≡ (are_children texts x 0 0 (levels - 1) (i + 1) (between xs (i + 1) x.end) && are_children texts parent (place_after parent x) (count + 1) levels x.end (between xs x.end end))
  good_child zero more up low h = absurd (omega arith)
  good_child (suc levels) more up low h =
      let last : x.end ≡ i + 1 + size (between xs (i + 1) x.end) = omega (arith, size-children xs d i end some in_List up low) in
      let less : suc levels - 1 ≡ levels = omega arith in
      ap (are_children texts parent least count (suc levels) i) (between_first xs d i end some in_List up low)
      ∙ rw (eq-eqb x.end (i + 1 + size (between xs (i + 1) x.end)) last, h, less)

  -- and then what is below it decides, or what comes after it
  module _ (levels : ℕ) (more : 0 < levels) (up : i < x.end) (low : x.end ≤ end) (y : Node) (h : (y ≡ x) × (is_child texts parent least x ≡ true)) where
    abbrev below : Node → Bool
    below z = are_children texts z 0 0 (levels - 1) (i + 1) (between xs (i + 1) z.end)

    pub bad-below : below y ≡ false → are_children texts parent least count levels i (between xs i end) ≡ false
    bad-below b = good_child levels more up low h.1 ∙ ap (λ k. k && are_children texts parent (place_after parent x) (count + 1) levels x.end (between xs x.end end)) (ap below (sym h.0) ∙ b)

    pub next_child : (next : ℕ) → below y ≡ true → next ≡ place_after parent y → are_children texts parent least count levels i (between xs i end) ≡ are_children texts parent next (count + 1) levels x.end (between xs x.end end)
    next_child next b e =
        let all = ap below (sym h.0) ∙ b in
        let place = ap (place_after parent) (sym h.0) ∙ sym e in
        good_child levels more up low h.1 ∙ (λ k. all k && are_children texts parent (place k) (count + 1) levels x.end (between xs x.end end))

first_three : (a b c rest : Bool) → (a && (b && c)) ≡ false → (a && (b && (c && rest))) ≡ false
first_three false b c rest h = refl
first_three true false c rest h = refl
first_three true true c rest h = and_left c rest h

-- a root is alone, and keeps what is asked of it
root_false : (texts : ℕ) (x : Node) (children later : Siblings) → (later ≡ none → (is File x.kind && (eqb x.end (1 + size children) && sound texts x)) ≡ false) → is_file texts (node x children later) ≡ false
root_false texts x children none h = first_three (is File x.kind) (eqb x.end (1 + size children)) (sound texts x) _ (h refl)
root_false texts x children (node y more later) h = refl

pub no_root : (texts : ℕ) (xs : List Node) → length xs ≡ 0 → lawful_nodes texts xs ≡ false
unfolding lawful_nodes
no_root texts [] h = refl
no_root texts (x ∷ xs) h = absurd (omega arith)

module _ (texts : ℕ) (xs : List Node) (d : Node) (some : 0 < length xs) where
  abbrev root : Node
  root = get_or xs 0 d

  all_of : between xs 0 (length xs) ≡ siblings 0 xs
  all_of = ap (siblings 0) (take_rest xs 0)

  children : Siblings
  children = children_any xs d 0 (length xs) some (omega arith)

  rooted : siblings 0 xs ≡ node root children (later_any xs d 0 (length xs) some (omega arith))
  unfolding children
  rooted = sym all_of ∙ between_any xs d 0 (length xs) some (omega arith)

  -- a root that is alone has all the others below it
  root-size : later_any xs d 0 (length xs) some (omega arith) ≡ none → length xs ≡ 1 + size children
  root-size alone = let sizes = sym (size-siblings 0 xs) ∙ ap size rooted in omega (arith, ap size alone)

  pub bad-root : (root.kind ≡ 0 → ⊥) ⊎ ((root.end ≡ length xs → ⊥) ⊎ (sound texts root ≡ false)) → lawful_nodes texts xs ≡ false
  unfolding lawful_nodes
  bad-root h =
      ap (is_file texts) rooted
      ∙ root_false texts root children _ (λ alone. ⊎_elim
      (λ k. and_left _ _ (ne_eqb _ _ k))
      (⊎_elim (λ k. and_right (is File root.kind) _ (and_left _ _ (ne_eqb _ _ (λ e. k (e ∙ sym (root-size alone)))))) (λ k. and_right (is File root.kind) _ (and_right (eqb root.end _) _ k)))
      h)

  pub good_root : root.kind ≡ 0 → root.end ≡ length xs → sound texts root ≡ true → lawful_nodes texts xs ≡ are_children texts root 0 0 40 1 (between xs 1 root.end)
  unfolding lawful_nodes
  good_root k e h =
      let up : 0 < root.end = omega arith in
      let low : root.end ≤ length xs = omega arith in
      let alone : between xs root.end (length xs) ≡ none = ap (λ n. between xs n (length xs)) e ∙ between_none xs (length xs) in
      let tree : siblings 0 xs ≡ node root (between xs 1 root.end) none = sym all_of ∙ between_first xs d 0 (length xs) some (omega arith) up low ∙ ap (node root (between xs 1 root.end)) alone in
      let last : root.end ≡ 1 + size (between xs 1 root.end) = omega (arith, size-children xs d 0 (length xs) some (omega arith) up low) in
      ap (is_file texts) tree ∙ rw (eq-eqb root.kind 0 k, eq-eqb root.end (1 + size (between xs 1 root.end)) last, h)
