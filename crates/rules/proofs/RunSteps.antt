-- What every run keeps.
use Rattle.std.proofs.Common.{◌≡◌, ◌+◌, ◌≤◌, Bool, true, false, cond, List, [], ◌∷◌, ◌++◌, map, length, Some, None, Option, sym, refl, ap, ◌∙◌, subst, append_assoc, zero-add}
use Rattle.std.proofs.lemmas.Bool.{and_parts, leb-true, not-false}
use Rattle.syntax.specs.Meaning.{Meaning}
use Rattle.syntax.specs.declared.refusal.Refusal.{Refusal}
use Rattle.syntax.specs.declared.refusal.Refusal.TheVariants.{NotAnItem, NotFirst, TableFull, IndexTooLarge}
use Rattle.rules.proofs.Ids.{Row, row-append, counted, entries-row}
use Rattle.rules.specs.Entries.{Size, small, big, size_of, Entries, empty, entry, followed}
use Rattle.rules.specs.Inventory.{of_size, plus, no_ids, node_tree, root_items, own, ids_given, ids_from}
use Rattle.rules.specs.Runs.{Call, root, item, Lowered, new, appended, after, not_an_item, not_first, index_too_large, table_full, refusal, answer_if, tree_if, next, answers, lowered, inventory, is_refused}
use Rattle.rules.specs.Consequences.{InventoryStands, RunIdsStand, LimitsStand}

-- what holds of a tree, and of it after an accepted call, holds after the call
module _ (P : Lowered → Type 0) (m : Meaning) (t : Lowered) (call : Call) (before : P t) (then : table_full (after m t call) ≡ false → P (after m t call)) where
  by-causes : (a b c d : Bool) → d ≡ table_full (after m t call) → P (tree_if m t call (cond a (Some NotAnItem) (cond b (Some NotFirst) (cond c (Some IndexTooLarge) (cond d (Some TableFull) None)))))
  by-causes true b c d e = before
  by-causes false true c d e = before
  by-causes false false true d e = before
  by-causes false false false true e = before
  by-causes false false false false e = then (sym e)

  kept : P (next m t call)
  kept =
      by-causes (not_an_item m call) (not_first t call) (index_too_large (plus no_ids (after m t call).entries)) (table_full (after m t call)) refl

module _ (P : Lowered → Type 0) (m : Meaning) (then : (t : Lowered) (call : Call) → P t → table_full (after m t call) ≡ false → P (after m t call)) where
  pub all-kept : (calls : List Call) (t : Lowered) → P t → P (lowered m t calls)
  all-kept [] t h = h
  all-kept (call ∷ later) t h = all-kept later (next m t call) (kept P m t call h (λ full. then t call h full))

pub limits_stand : LimitsStand
limits_stand m calls = all-kept (λ t. table_full t ≡ false) m (λ t call h full. full) calls new refl

pub in_limits : (t : Lowered) → table_full t ≡ false → ((plus no_ids t.entries).smalls ≤ 512) × ((plus no_ids t.entries).bigs ≤ 256)
in_limits t h = let p = and_parts _ _ (not-false _ h) in let q = and_parts _ _ p.1 in (leb-true _ _ p.0, leb-true _ _ q.0)

given-followed : (s : Size) (es fs : Entries) → ids_given s (followed es fs) ≡ ids_given s es ++ ids_given s fs
given-followed s empty fs = refl
given-followed s (entry e inside later) fs =
    let mine = own s (size_of e.item) e.id in
    let a = given-followed s later fs in
    let b = append_assoc mine (ids_given s later) (ids_given s fs) in
    let c = append_assoc (ids_given s inside) (mine ++ ids_given s later) (ids_given s fs) in
    ap (λ xs. ids_given s inside ++ (mine ++ xs)) a ∙ (ap (λ xs. ids_given s inside ++ xs) (sym b) ∙ sym c)

appended-row : (s : Size) (m : Meaning) (es : Entries) (call : Call) → Row s (of_size s (plus no_ids es)) (ids_given s (appended m es call))
appended-row s m es root = entries-row s m (plus no_ids es) 1 (root_items m)
appended-row s m es (item n) = entries-row s m (plus no_ids es) n (node_tree m n)

none_yet : (s : Size) → of_size s no_ids ≡ 0
none_yet small = refl
none_yet big = refl

ids-followed : (s : Size) (m : Meaning) (es : Entries) (call : Call) → Row s 0 (ids_given s es) → Row s 0 (ids_given s (followed es (appended m es call)))
ids-followed s m es call h =
    let count : of_size s (plus no_ids es) ≡ 0 + length (ids_given s es) = counted s es no_ids ∙ ap (λ k. k + length (ids_given s es)) (none_yet s) in
    subst (Row s 0) (sym (given-followed s es (appended m es call))) (row-append s 0 (of_size s (plus no_ids es)) (ids_given s es) (ids_given s (appended m es call)) count h (appended-row s m es call))

ids-after : (s : Size) (m : Meaning) (t : Lowered) (call : Call) → Row s 0 (ids_given s t.entries) → Row s 0 (ids_given s (after m t call).entries)
ids-after s m t root h = ids-followed s m t.entries root h
ids-after s m t (item n) h = ids-followed s m t.entries (item n) h

pub run-ids-stand : RunIdsStand
run-ids-stand m calls s =
    let es = (lowered m new calls).entries in
    let row = all-kept (λ t. Row s 0 (ids_given s t.entries)) m (λ t call h full. ids-after s m t call h) calls new refl in
    let count : length (ids_given s es) ≡ of_size s (plus no_ids es) = sym (counted s es no_ids ∙ (ap (λ k. k + length (ids_given s es)) (none_yet s) ∙ zero-add _)) in
    row ∙ ap (ids_from s 0) count

fed_next : (m : Meaning) (t : Lowered) (call : Call) (o : Option Refusal) (later : List Call) (flags : List Bool)
    → inventory m (tree_if m t call o).entries later flags ≡ inventory m t.entries (call ∷ later) (is_refused (answer_if m t call o) ∷ flags)
fed_next m t root None later flags = refl
fed_next m t (item n) None later flags = refl
fed_next m t call (Some e) later flags = refl

fed : (m : Meaning) (calls : List Call) (t : Lowered) → (lowered m t calls).entries ≡ inventory m t.entries calls (map is_refused (answers m t calls))
fed m [] t = refl
fed m (call ∷ later) t = fed m later (next m t call) ∙ fed_next m t call (refusal m t call) later (map is_refused (answers m (next m t call) later))

pub inventory-stands : InventoryStands
inventory-stands m calls = fed m calls new
