-- An inventory is held by the answers that are read from it, and by no others.
use Rattle.std.proofs.Common.{◌≡◌, ℕ, ◌<◌, ◌≤◌, true, false, ◌||◌, eqb, List, Some, None, sym, refl, ap, ◌∙◌, subst, inl, inr, arith, eq-eqb}
use Rattle.std.proofs.lemmas.Bool.{cases_Bool, eqb-true, or_cases, or_left, or_right, or_parts, false_from_ne_true, false≢true}
use Rattle.std.specs.Option.{option_map}
use Rattle.syntax.specs.Meaning.{Meaning}
use Rattle.items.specs.Attributes.{AttrList}
use Rattle.rules.proofs.Apart.{Apart, Good, followed_good, entries_good, own-id}
use Rattle.rules.proofs.RunSteps.{all-kept, limits_stand, in_limits}
use Rattle.rules.specs.Entries.{Size, small, big, id_of, Entry, Entries, empty, entry}
use Rattle.rules.specs.Holding.{indexed, stored, Each, is_id, top_owner, find, attrs_in, HoldingStands, HoldingOnce}
use Rattle.rules.specs.Inventory.{Counts, of_size, plus, no_ids, node_tree, root_items}
use Rattle.rules.specs.Runs.{Call, root, item, Lowered, new, appended, after, table_full, lowered}

pub each_map : (P Q : Entry → Type 0) → ((e : Entry) → P e → Q e) → (es : Entries) → Each P es → Each Q es
each_map P Q f empty h = tt
each_map P Q f (entry e inside later) h = (f e h.0, each_map P Q f inside h.1, each_map P Q f later h.2)

each_both : (P Q : Entry → Type 0) (es : Entries) → Each P es → Each Q es → Each (λ e. P e × Q e) es
each_both P Q empty h k = tt
each_both P Q (entry e inside later) h k = ((h.0, k.0), each_both P Q inside h.1 k.1, each_both P Q later h.2 k.2)

-- each entry's id is one of them
each_id : (es : Entries) → Each (λ e. is_id e.id es ≡ true) es
each_id empty = tt
each_id (entry e inside later) = (
  own-id e inside later,
  each_map _ _ (λ (x : Entry) h. or_right (eqb e.id x.id) (is_id x.id inside || is_id x.id later) (or_left (is_id x.id inside) (is_id x.id later) h)) inside (each_id inside),
  each_map _ _ (λ (x : Entry) h. or_right (eqb e.id x.id) (is_id x.id inside || is_id x.id later) (or_right (is_id x.id inside) (is_id x.id later) h)) later (each_id later),
)

-- where there is an id, there is an entry
each_at : (P : Entry → Type 0) (es : Entries) (n : ℕ) → is_id n es ≡ true → Each P es → (e : Entry) × (e.id ≡ n) × P e
each_at P empty n h k = absurd (false≢true h)
each_at P (entry e inside later) n h k =
    elim (or_cases (eqb e.id n) (is_id n inside || is_id n later) h) [
      | inl y ↦ (e, eqb-true e.id n y, k.0)
      | inr y ↦ elim (or_cases (is_id n inside) (is_id n later) y) [ inl z ↦ each_at P inside n z k.1 | inr z ↦ each_at P later n z k.2 ]
    ]

find_none : (n : ℕ) (es : Entries) → is_id n es ≡ false → find n es ≡ None
find_none n empty h = refl
find_none n (entry e inside later) h =
    let p = or_parts (eqb e.id n) (is_id n inside || is_id n later) h in
    let q = or_parts (is_id n inside) (is_id n later) p.1 in
    let a = find_none n inside q.0 in
    let b = find_none n later q.1 in
    rw (p.0, a, b) refl

find-inside : (e x : Entry) (inside later : Entries) → is_id e.id inside ≡ false → (find x.id inside ≡ Some x) × (is_id x.id inside ≡ true) → find x.id (entry e inside later) ≡ Some x
find-inside e x inside later absent h =
    let other : eqb e.id x.id ≡ false = false_from_ne_true _ (λ k. false≢true (sym absent ∙ (ap (λ n. is_id n inside) (eqb-true e.id x.id k) ∙ h.1))) in
    rw (other, h.0) refl

find-later : (e x : Entry) (inside later : Entries) → is_id e.id later ≡ false → ((n : ℕ) → is_id n inside ≡ true → is_id n later ≡ true → ⊥) → (find x.id later ≡ Some x) × (is_id x.id later ≡ true) → find x.id (entry e inside later) ≡ Some x
find-later e x inside later absent apart h =
    let other : eqb e.id x.id ≡ false = false_from_ne_true _ (λ k. false≢true (sym absent ∙ (ap (λ n. is_id n later) (eqb-true e.id x.id k) ∙ h.1))) in
    let nowhere = find_none x.id inside (false_from_ne_true _ (λ k. apart x.id k h.1)) in
    rw (other, nowhere, h.0) refl

each_found : (es : Entries) → Apart es → Each (λ e. find e.id es ≡ Some e) es
each_found empty a = tt
each_found (entry e inside later) a = (
  (let same = eq-eqb e.id e.id refl in rw same refl),
  each_map _ _ (λ (x : Entry) h. find-inside e x inside later a.0 h) inside (each_both _ _ inside (each_found inside a.3) (each_id inside)),
  each_map _ _ (λ (x : Entry) h. find-later e x inside later a.1 a.2 h) later (each_both _ _ later (each_found later a.4) (each_id later)),
)

after_good : (m : Meaning) (t : Lowered) (call : Call) → Good no_ids t.entries → Good no_ids (after m t call).entries
after_good m t root h = followed_good no_ids t.entries (appended m t.entries root) h (entries_good m (plus no_ids t.entries) 1 (root_items m))
after_good m t (item n) h = followed_good no_ids t.entries (appended m t.entries (item n)) h (entries_good m (plus no_ids t.entries) n (node_tree m n))

pub run_good : (m : Meaning) (calls : List Call) → Good no_ids (lowered m new calls).entries
run_good m calls = all-kept (λ t. Good no_ids t.entries) m (λ t call h full. after_good m t call h) calls new (record { ranged = λ n h. absurd (false≢true h); apart = tt })

-- the owner of the top level's attributes is no item's id
no_such : (s : Size) (k : ℕ) (b : Counts) → b.bigs ≤ 256 → top_owner ≡ id_of s k → k < of_size s b → ⊥
no_such small k b few e l = omega arith
no_such big k b few e l = omega arith

no_owner : (t : Lowered) → table_full t ≡ false → Good no_ids t.entries → is_id top_owner t.entries ≡ false
no_owner t full good = false_from_ne_true _ (λ h. let p = good.ranged top_owner h in no_such p.size p.index (plus no_ids t.entries) (in_limits t full).1 p.is p.to)

attrs-here : (es : Entries) (file : AttrList) → is_id top_owner es ≡ false → (e : Entry) → (find e.id es ≡ Some e) × (is_id e.id es ≡ true) → attrs_in es file e.id ≡ Some (stored e.attrs)
attrs-here es file absent e h =
    let other : eqb e.id top_owner ≡ false = false_from_ne_true _ (λ k. false≢true (sym absent ∙ (ap (λ n. is_id n es) (sym (eqb-true e.id top_owner k)) ∙ h.1))) in
    rw (other, h.0) refl

pub holding_stands_lem : HoldingStands
holding_stands_lem m calls =
    let t = lowered m new calls in
    let es = (lowered m new calls).entries in
    let good = run_good m calls in
    let found = each_found es good.apart in
    let absent = no_owner t (limits_stand m calls) good in
    record {
      top_level = refl;
      records = each_map _ _ (λ (e : Entry) h. ap (option_map indexed) h) es found;
      no_record = λ n h. ap (option_map indexed) (find_none n es h);
      lists = each_map _ _ (attrs-here es t.top absent) es (each_both _ _ es found (each_id es));
      file_list = refl;
      no_list = λ n h other. (let gone = find_none n es h in rw (other, gone) refl);
    }

pub holding_once : HoldingOnce
holding_once top top' index index' attrs attrs' es file p q = (
  p.top_level ∙ sym q.top_level,
  λ n. elim (cases_Bool (is_id n es)) [
    | inl y ↦ (let r = each_at _ es n y (each_both _ _ es p.records q.records) in subst (λ k. index k ≡ index' k) r.1 (r.2.0 ∙ sym r.2.1))
    | inr y ↦ p.no_record n y ∙ sym (q.no_record n y)
  ],
  λ n. elim (cases_Bool (is_id n es)) [
    | inl y ↦ (let r = each_at _ es n y (each_both _ _ es p.lists q.lists) in subst (λ k. attrs k ≡ attrs' k) r.1 (r.2.0 ∙ sym r.2.1))
    | inr y ↦ elim (cases_Bool (eqb n top_owner)) [
      | inl z ↦ subst (λ k. attrs k ≡ attrs' k) (sym (eqb-true n top_owner z)) (p.file_list ∙ sym q.file_list)
      | inr z ↦ p.no_list n y z ∙ sym (q.no_list n y z)
    ]
  ],
)
