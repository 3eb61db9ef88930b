-- The whole form at the front of bytes.
use Rattle.std.proofs.Common.{◌≡◌, ℕ, ◌<◌, ◌≤◌, List, [], ◌∷◌, ◌++◌, length, take, drop, replicate, sym, refl, ap, ◌∙◌, append_assoc, append-nil, arith, length-drop}
use Rattle.std.specs.List.{flat_map}
use Rattle.std.proofs.lemmas.List.{length-replicate, drop_all, map-id}
use Rattle.syntax.specs.Meaning.{Meaning}
use Rattle.syntax.specs.declared.node.Node.{Node}
use Rattle.syntax.specs.declared.refusal.Refusal.{Refusal}
use Rattle.forms.specs.declared.number.NumberFault.{NumberFault}
use Rattle.forms.specs.declared.tables.Span.{Span}
use Rattle.forms.specs.Faults.{refusal_of}
use Rattle.forms.specs.Numbers.{encoded, NumberAt, NumberFaulty}
use Rattle.forms.specs.Form.{Field, number, in_bytes, Narrow, node_fields, text_fields, form_fields, FormOf}
use Rattle.forms.specs.Reading.{Any, OfLength, Fails, NodesRead, TextsRead, FormRead, Long}
use Rattle.forms.proofs.Fields.{bytes-append, narrow-append, narrow_left, narrow_right}
use Rattle.forms.proofs.Sequences.{fails_first, fails_after}
use Rattle.forms.proofs.Firmness.{Single, Firm, firm_pair}
use Rattle.forms.proofs.FieldRows.{narrow-replicate, rows_single, rows_firm}
use Rattle.forms.proofs.Codes.{number_fields, number-single, number_firm, number-stands, number_fails, node-single, node_firm, text-single, text_firm}
use Rattle.forms.specs.Tables.{no_node, no_span}

-- what is left of the fields after the first count, and after both
abbrev after_both : Meaning → List Field
after_both m = flat_map node_fields m.nodes ++ flat_map text_fields m.texts

abbrev after_first : Meaning → List Field
after_first m = number (length m.texts) ∷ after_both m

abbrev OfNodes : ℕ → Meaning → Type 0
OfNodes n m = length m.nodes ≡ n

abbrev OfCounts : ℕ → ℕ → Meaning → Type 0
OfCounts n t m = (length m.nodes ≡ n) × (length m.texts ≡ t)

-- so many nodes and texts
abbrev blank : ℕ → ℕ → Meaning
blank n t = record { nodes = replicate n no_node; texts = replicate t [] }

blank-narrow : (n t : ℕ) → Narrow (after_both (blank n t))
blank-narrow n t =
    narrow-append (flat_map node_fields (replicate n no_node)) (flat_map text_fields (replicate t [])) (narrow-replicate node_fields no_node n (omega arith, (omega arith, (omega arith, (omega arith, (omega arith, (omega arith, tt))))))) (narrow-replicate text_fields [] t (omega arith, tt))

-- one form stands at the front of bytes
pub form-single : Single Any form_fields
form-single m k r s p q u v e =
    let first = number-single (length m.nodes) (length k.nodes) (in_bytes (after_first m) ++ r) (in_bytes (after_first k) ++ s) tt tt (u.0, tt) (v.0, tt) (sym (bytes-append (number_fields (length m.nodes)) (after_first m) r) ∙ e ∙ bytes-append (number_fields (length k.nodes)) (after_first k) s) in
    let second = number-single (length m.texts) (length k.texts) (in_bytes (after_both m) ++ r) (in_bytes (after_both k) ++ s) tt tt (u.1.0, tt) (v.1.0, tt) (sym (bytes-append (number_fields (length m.texts)) (after_both m) r) ∙ first.1 ∙ bytes-append (number_fields (length k.texts)) (after_both k) s) in
    let xs = flat_map node_fields m.nodes in
    let ys = flat_map node_fields k.nodes in
    let ts = flat_map text_fields m.texts in
    let us = flat_map text_fields k.texts in
    let nodes = rows_single node_fields node-single (length k.nodes) m.nodes k.nodes (in_bytes ts ++ r) (in_bytes us ++ s) first.0 refl (narrow_left xs ts u.1.1) (narrow_left ys us v.1.1) (sym (bytes-append xs ts r) ∙ second.1 ∙ bytes-append ys us s) in
    let texts = rows_single text_fields text-single (length k.texts) m.texts k.texts r s second.0 refl (narrow_right xs ts u.1.1) (narrow_right ys us v.1.1) nodes.1 in
    (λ i. record { nodes = nodes.0 i; texts = texts.0 i }, texts.1)

-- and none where a number is bad
both_firm : (n t : ℕ) → Firm (OfCounts n t) after_both
both_firm n t =
    firm_pair (OfLength n) (flat_map node_fields) (λ _. OfLength t) (flat_map text_fields) (OfCounts n t) after_both (λ m k. (m.nodes, m.texts, k.0, k.1, refl)) (rows_single node_fields node-single n) (rows_firm node_fields node-single node_firm n) (λ _ _. rows_firm text_fields text-single text_firm t)

first_firm : (n : ℕ) → Firm (OfNodes n) after_first
first_firm n = firm_pair Any number_fields (OfCounts n) after_both (OfNodes n) after_first (λ m k. (length m.texts, m, tt, (k, refl), refl)) number-single number_firm (λ t _. both_firm n t)

pub form_firm : Firm Any form_fields
form_firm = firm_pair Any number_fields OfNodes after_first Any form_fields (λ m _. (length m.nodes, m, tt, refl, refl)) number-single number_firm (λ n _. first_firm n)

module _ (bytes : List ℕ) where
  pub bad-node-count : (fault : NumberFault) → NumberFaulty bytes fault → Fails Any form_fields bytes (refusal_of fault)
  bad-node-count fault h =
      fails_first Any number_fields Any form_fields
      (λ n _. (blank n 0, after_first (blank n 0), tt, (omega arith, blank-narrow n 0), ap (λ k. number k ∷ after_first (blank n 0)) (length-replicate n no_node)))
      bytes (refusal_of fault) (number_fails bytes fault h)

  module _ (n a : ℕ) (first : NumberAt bytes 0 n a) where
    after_first_lem : (e : Refusal) → Fails (OfNodes n) after_first (drop a bytes) e → Fails Any form_fields bytes e
    after_first_lem e h =
        let s = number-stands bytes 0 n a first in
        fails_after number_fields (OfNodes n) after_first Any form_fields n s.narrow
        (λ m k. (m, tt, ap (λ l. number l ∷ after_first m) k))
        bytes (drop a bytes) s.same e h

    pub bad-text-count : (fault : NumberFault) → NumberFaulty (drop a bytes) fault → Fails Any form_fields bytes (refusal_of fault)
    bad-text-count fault h =
        after_first_lem (refusal_of fault) (fails_first Any number_fields (OfNodes n) after_first
        (λ t _. (blank n t, after_both (blank n t), length-replicate n no_node, blank-narrow n t, ap (λ k. number k ∷ after_both (blank n t)) (length-replicate t [])))
        (drop a bytes) (refusal_of fault) (number_fails (drop a bytes) fault h))

    module _ (t b : ℕ) (second : NumberAt bytes a t b) where
      after-second : (e : Refusal) → Fails (OfCounts n t) after_both (drop b bytes) e → Fails Any form_fields bytes e
      after-second e h =
          let s = number-stands bytes a t b second in
          after_first_lem e (fails_after number_fields (OfCounts n t) after_both (OfNodes n) after_first t s.narrow
          (λ m k. (m, k.0, ap (λ l. number l ∷ after_both m) k.1))
          (drop a bytes) (drop b bytes) s.same e h)

      pub bad-nodes : (e : Refusal) → Fails (OfLength n) (flat_map node_fields) (drop b bytes) e → Fails Any form_fields bytes e
      bad-nodes e h =
          after-second e (fails_first (OfLength n) (flat_map node_fields) (OfCounts n t) after_both
          (λ xs k. (record { nodes = xs; texts = replicate t [] }, flat_map text_fields (replicate t []), (k, length-replicate t []), narrow-replicate text_fields [] t (omega arith, tt), refl))
          (drop b bytes) e h)

      module _ (ns : List Node) (c : ℕ) (nodes : NodesRead bytes b n ns c) where
        pub bad-texts : (e : Refusal) → Fails (OfLength t) (flat_map text_fields) (drop c bytes) e → Fails Any form_fields bytes e
        bad-texts e h =
            let s = nodes.stand in
            after-second e (fails_after (flat_map node_fields) (OfLength t) (flat_map text_fields) (OfCounts n t) after_both nodes.rows s.narrow
            (λ ts k. (record { nodes = nodes.rows; texts = ts }, (s.kept, k), refl))
            (drop b bytes) (drop c bytes) s.same e h)

        module _ (spans : List Span) (d : ℕ) (texts : TextsRead bytes c t spans d) where
          meaning : Meaning
          meaning = record { nodes = nodes.rows; texts = texts.rows }

          form-narrow : Narrow (form_fields meaning)
          unfolding meaning
          form-narrow =
              let x = nodes.stand in
              let y = texts.stand in (
                omega (arith, x.kept, first.0),
                (omega (arith, y.kept, second.0), narrow-append (flat_map node_fields nodes.rows) (flat_map text_fields texts.rows) x.narrow y.narrow),
              )

          form-stands : bytes ≡ in_bytes (form_fields meaning) ++ drop d bytes
          unfolding meaning
          form-stands =
              let x = nodes.stand in
              let y = texts.stand in
              let both : drop b bytes ≡ in_bytes (after_both meaning) ++ drop d bytes = x.same ∙ ap (λ l. in_bytes (flat_map node_fields nodes.rows) ++ l) y.same ∙ sym (bytes-append (flat_map node_fields nodes.rows) (flat_map text_fields texts.rows) (drop d bytes)) in
              let n-bytes = encoded (length nodes.rows) in
              let t-bytes = encoded (length texts.rows) in
              first.3 ∙ (λ i. encoded (sym x.kept i) ++ (second.3 ∙ (λ j. encoded (sym y.kept j) ++ both j)) i)
              ∙ sym (append_assoc n-bytes (t-bytes ++ in_bytes (after_both meaning)) (drop d bytes) ∙ ap (λ l. n-bytes ++ l) (append_assoc t-bytes (in_bytes (after_both meaning)) (drop d bytes)))

          pub too_long : d < length bytes → Long bytes
          too_long less = record { meaning = meaning; rest = drop d bytes; some = omega (arith, length-drop d bytes); narrow = form-narrow; same = form-stands }

          pub whole-form : (room : (length ns ≡ 4096) × (length spans ≡ 1024)) → length bytes ≤ d → FormRead (FormOf bytes) bytes (record { nodes = ns; texts = spans; counts = record { nodes = n; texts = t }; room = room })
          unfolding meaning
          whole-form room all = record {
            meaning = meaning;
            form = record { narrow = form-narrow; same = form-stands ∙ ap (λ l. in_bytes (form_fields meaning) ++ l) (drop_all d bytes all) ∙ append-nil (in_bytes (form_fields meaning)) };
            node_count = nodes.stand.kept;
            text_count = texts.stand.kept;
            nodes_held = λ room. sym (map-id (take n ns)) ∙ nodes.held room;
            texts_held = texts.held;
            within = λ room k less. texts.within room no_span k less;
          }
