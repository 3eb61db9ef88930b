-- What is read goes into a table, one by one.
use Rattle.std.proofs.Common.{ℕ, ◌+◌, ◌<◌, ◌≢◌, List, [], ◌∷◌, ◌++◌, length, get_or, map, take, drop, set, ap, ◌∙◌, arith, get_or-set_other, get_or-set_same, below_more}
use Rattle.std.specs.List.{flat_map}
use Rattle.std.proofs.lemmas.List.{length-set, take_more_set, map_push}
use Rattle.syntax.specs.declared.refusal.Refusal.{Refusal}
use Rattle.forms.specs.Form.{Field, Narrow}
use Rattle.forms.specs.Reading.{Any, OfLength, Stands, Fails, RowsRead}
use Rattle.forms.proofs.FieldRows.{row_more, row-past}

module _ {A M : Type 0} (meant : A → M) (fields : M → List Field) (Within : A → Type 0) (bytes : List ℕ) (start : ℕ) where
  pub rows_more : (i : ℕ) (table : List A) (at : ℕ) (x : A) (next : ℕ) → RowsRead meant fields Within bytes start i table at → Stands Any fields (drop at bytes) (meant x) (drop next bytes) × Within x → RowsRead meant fields Within bytes start (i + 1) (set table i x) next
  rows_more i table at x next p q = record {
    rows = p.rows ++ meant x ∷ [];
    stand = row_more fields i (drop start bytes) (drop at bytes) (drop next bytes) p.rows (meant x) p.stand q.0;
    held = λ room.
        let size = length-set table i x in
        ap (map meant) (take_more_set table i x (omega (arith, room, size))) ∙ map_push meant (take i table) x ∙ ap (λ l. l ++ meant x ∷ []) (p.held (omega (arith, room, size)));
    within = λ room d.
        let size = length-set table i x in
        let here : i < length table = omega (arith, room, size) in
        below_more (λ k. Within (get_or (set table i x) k d)) i
        (λ k less. let ne : k ≢ i = omega arith in rw (get_or-set_other table i k x d ne) (p.within (omega (arith, room, size)) d k less))
        (rw (get_or-set_same table i x d here) q.1);
  }

  pub rows_fail : (some : M) → Narrow (fields some) → (i n : ℕ) (table : List A) (at : ℕ) (e : Refusal) → RowsRead meant fields Within bytes start i table at → i < n → Fails Any fields (drop at bytes) e → Fails (OfLength n) (flat_map fields) (drop start bytes) e
  rows_fail some narrow i n table at e p less h =
      let s = p.stand in
      row-past fields some narrow n (drop start bytes) (drop at bytes) p.rows e (omega (arith, s.kept)) s.narrow s.same h
