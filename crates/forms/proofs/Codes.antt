-- Numbers, nodes and texts at the front of bytes.
use Rattle.std.proofs.Common.{◌≡◌, ℕ, suc, pred, ◌+◌, ◌-◌, ◌<◌, ◌≤◌, List, [], ◌∷◌, ◌++◌, length, get_or, drop, replicate, sym, refl, ap, ◌∙◌, inl, inr, append_assoc, append-nil, arith, length-append, take-append-drop}
use Rattle.std.specs.List.{flat_map}
use Rattle.std.proofs.lemmas.List.{append_cancel_left, length-replicate, drop-drop}
use Rattle.syntax.specs.declared.node.Node.{Node}
use Rattle.syntax.specs.declared.refusal.Refusal.{Refusal}
use Rattle.syntax.specs.declared.refusal.Refusal.TheVariants.{Form}
use Rattle.forms.specs.declared.number.NumberFault.{NumberFault}
use Rattle.forms.specs.declared.number.NumberFault.TheVariants.{CutShort, TooWide, NotShortest}
use Rattle.forms.specs.declared.tables.Span.{Span}
use Rattle.forms.specs.Faults.{refusal_of}
use Rattle.forms.specs.Numbers.{encoded, NumberAt, NumberFaulty}
use Rattle.forms.specs.Form.{Field, number, content, in_bytes, node_fields, text_fields}
use Rattle.forms.specs.Reading.{Any, OfLength, Stands, Cut, Stray, Fails}
use Rattle.forms.specs.Tables.{spanned}
use Rattle.forms.specs.Words.{node_words}
use Rattle.forms.proofs.Groups.{no_number, encoded-one, number_stays, number_completed}
use Rattle.forms.proofs.Sequences.{fails_first}
use Rattle.forms.proofs.Firmness.{Single, Firm, no_fields, firm_pair}
use Rattle.forms.proofs.FieldRows.{rows_single, rows_firm, row-none, row_here, row_next}
use Rattle.forms.proofs.Texts.{spanned-length}

-- numbers
abbrev pub number_fields : ℕ → List Field
number_fields n = number n ∷ []

pub number-single : Single Any number_fields
number-single m n r s p q u v e =
    let e' : encoded m ++ r ≡ encoded n ++ s = ap (λ l. l ++ r) (sym (append-nil (encoded m))) ∙ e ∙ ap (λ l. l ++ s) (append-nil (encoded n)) in
    let same = encoded-one m n r s e' in
    (same, append_cancel_left (encoded n) r s (ap (λ k. encoded k ++ r) (sym same) ∙ e'))

pub number-stands : (bytes : List ℕ) (at n next : ℕ) → NumberAt bytes at n next → Stands Any number_fields (drop at bytes) n (drop next bytes)
number-stands bytes at n next h = record { kept = tt; narrow = (h.0, tt); same = h.3 ∙ ap (λ l. l ++ drop next bytes) (sym (append-nil (encoded n))) }

number_cut : (bs : List ℕ) → NumberFaulty bs CutShort → Cut Any number_fields bs
number_cut bs h =
    let k = number_completed bs h in
    record { whole = k.0; rest = k.1; kept = tt; narrow = (k.2, tt); some = k.3; same = k.4 ∙ sym (append-nil (encoded k.0)) }

number_stray : (bs : List ℕ) (fault : NumberFault) → NumberFaulty bs fault → Stray Any number_fields bs fault
number_stray bs fault h = record { whole = 0; before = []; value = 0; after = []; bad = bs; kept = tt; narrow = (omega arith, tt); there = refl; same = refl; faulty = h }

pub number_fails : (bs : List ℕ) (fault : NumberFault) → NumberFaulty bs fault → Fails Any number_fields bs (refusal_of fault)
unfolding Fails
number_fails bs CutShort h = inl (refl, number_cut bs h)
number_fails bs TooWide h = inr (refl, inl (number_stray bs TooWide h))
number_fails bs NotShortest h = inr (refl, inr (number_stray bs NotShortest h))

pub number_firm : Firm Any number_fields
number_firm a b [] after v bad r s fault p q u w other faulty there e = no_number (bad ++ r) fault b s (number_stays bad r fault other faulty) w.0 (e ∙ ap (λ l. l ++ s) (append-nil (encoded b)))
number_firm a b (x ∷ before) after v bad r s fault p q u w other faulty there e = no_fields (number v) before after (ap (drop 1) there)

-- a node: six numbers
node_of : (ns : List ℕ) → length ns ≡ 6 → (x : Node) × (node_words x ≡ ns)
node_of [] p = absurd (omega (arith, p))
node_of (a ∷ []) p = absurd (omega (arith, p))
node_of (a ∷ b ∷ []) p = absurd (omega (arith, p))
node_of (a ∷ b ∷ c ∷ []) p = absurd (omega (arith, p))
node_of (a ∷ b ∷ c ∷ d ∷ []) p = absurd (omega (arith, p))
node_of (a ∷ b ∷ c ∷ d ∷ e ∷ []) p = absurd (omega (arith, p))
node_of (a ∷ b ∷ c ∷ d ∷ e ∷ f ∷ []) p = (record { kind = a; end = b; text = c; mark = d; from = e; to = f }, refl)
node_of (a ∷ b ∷ c ∷ d ∷ e ∷ f ∷ g ∷ ns) p = absurd (omega (arith, p))

pub same-words : (x y : Node) → node_words x ≡ node_words y → x ≡ y
same-words x y e = λ i. record { kind = get_or (e i) 0 0; end = get_or (e i) 1 0; text = get_or (e i) 2 0; mark = get_or (e i) 3 0; from = get_or (e i) 4 0; to = get_or (e i) 5 0 }

pub node-single : Single Any node_fields
node-single x y r s p q u v e = let k = rows_single number_fields number-single 6 (node_words x) (node_words y) r s refl refl u v e in (same-words x y k.0, k.1)

pub node_firm : Firm Any node_fields
node_firm x y before after v bad r s fault p q u w other faulty there e = rows_firm number_fields number-single number_firm 6 (node_words x) (node_words y) before after v bad r s fault refl refl u w other faulty there e

pub node_fails : (bs : List ℕ) (e : Refusal) → Fails (OfLength 6) (flat_map number_fields) bs e → Fails Any node_fields bs e
node_fails bs e h =
    fails_first (OfLength 6) (flat_map number_fields) Any node_fields
    (λ ns p. let k = node_of ns p in (k.0, [], tt, tt, ap (flat_map number_fields) k.1 ∙ sym (append-nil (flat_map number_fields ns))))
    bs e h

pub bad-number : (n : ℕ) (bs : List ℕ) (fault : NumberFault) → NumberFaulty bs fault → Fails (OfLength (suc n)) (flat_map number_fields) bs (refusal_of fault)
bad-number n bs fault h = row_here number_fields 0 (omega arith, tt) n bs (refusal_of fault) (number_fails bs fault h)

pub good_number : (n : ℕ) (bytes : List ℕ) (at v next : ℕ) (e : Refusal) → NumberAt bytes at v next → Fails (OfLength n) (flat_map number_fields) (drop next bytes) e → Fails (OfLength (suc n)) (flat_map number_fields) (drop at bytes) e
good_number n bytes at v next e h k = row_next number_fields n (drop at bytes) (drop next bytes) v e (number-stands bytes at v next h) k

-- a text: its length, and its bytes
pub same-front : (a b r s : List ℕ) → length a ≡ length b → a ++ r ≡ b ++ s → (a ≡ b) × (r ≡ s)
same-front [] [] r s n e = (refl, e)
same-front [] (y ∷ b) r s n e = absurd (omega (arith, n))
same-front (x ∷ a) [] r s n e = absurd (omega (arith, n))
same-front (x ∷ a) (y ∷ b) r s n e =
    let k = same-front a b r s (ap pred n) (ap (drop 1) e) in
    let first : x ≡ y = ap (λ l. get_or l 0 0) e in
    (λ i. first i ∷ k.0 i, k.1)

text-bytes : (t r : List ℕ) → in_bytes (text_fields t) ++ r ≡ encoded (length t) ++ (t ++ r)
text-bytes t r = append_assoc (encoded (length t)) (t ++ []) r ∙ ap (λ l. encoded (length t) ++ (l ++ r)) (append-nil t)

pub text-single : Single Any text_fields
text-single a b r s p q u v e =
    let e' : encoded (length a) ++ (a ++ r) ≡ encoded (length b) ++ (b ++ s) = sym (text-bytes a r) ∙ e ∙ text-bytes b s in
    let size = encoded-one (length a) (length b) (a ++ r) (b ++ s) e' in
    same-front a b r s size (append_cancel_left (encoded (length b)) (a ++ r) (b ++ s) (ap (λ k. encoded k ++ (a ++ r)) (sym size) ∙ e'))

content_firm : (n : ℕ) → Firm (OfLength n) (λ t. content t ∷ [])
content_firm n a b [] after v bad r s fault p q u w other faulty there e = let never : ◌≡◌ {A = ℕ} 0 1 = cc in omega arith
content_firm n a b (x ∷ before) after v bad r s fault p q u w other faulty there e = no_fields (number v) before after (ap (drop 1) there)

pub text_firm : Firm Any text_fields
text_firm = firm_pair Any number_fields OfLength (λ t. content t ∷ []) Any text_fields (λ t _. (length t, t, tt, refl, refl)) number-single number_firm (λ n _. content_firm n)

pub text-bad-length : (bs : List ℕ) (fault : NumberFault) → NumberFaulty bs fault → Fails Any text_fields bs (refusal_of fault)
text-bad-length bs fault h =
    fails_first Any number_fields Any text_fields
    (λ n _. (replicate n 0, content (replicate n 0) ∷ [], tt, tt, ap (λ k. number k ∷ content (replicate n 0) ∷ []) (length-replicate n 0)))
    bs (refusal_of fault) (number_fails bs fault h)

pub text-short : (bytes : List ℕ) (at n start : ℕ) → NumberAt bytes at n start → length (drop start bytes) < n → Fails Any text_fields (drop at bytes) Form
unfolding Fails
text-short bytes at n start h less =
    let there = drop start bytes in
    let missing : List ℕ = replicate (n - length there) 0 in
    let t = there ++ missing in
    let size : length t ≡ n = omega (arith, length-append there missing, length-replicate {A = ℕ} (n - length there) 0) in
    inl (
      refl,
      record {
        whole = t;
        rest = missing;
        kept = tt;
        narrow = (omega (arith, size, h.0), tt);
        some = omega (arith, length-replicate {A = ℕ} (n - length there) 0);
        same = ap (λ l. l ++ missing) h.3 ∙ append_assoc (encoded n) there missing ∙ (λ i. encoded (sym size i) ++ sym (append-nil t) i);
      },
    )

pub text-stands : (bytes : List ℕ) (at : ℕ) (span : Span) → NumberAt bytes at span.len span.start → span.start + span.len ≤ length bytes → Stands Any text_fields (drop at bytes) (spanned bytes span) (drop (span.start + span.len) bytes)
text-stands bytes at span h fits =
    let t = spanned bytes span in
    let size = spanned-length bytes span fits in
    let parts : t ++ drop (span.start + span.len) bytes ≡ drop span.start bytes = ap (λ l. t ++ l) (sym (drop-drop span.len span.start bytes)) ∙ take-append-drop span.len (drop span.start bytes) in
    record {
      kept = tt;
      narrow = (omega (arith, size, h.0), tt);
      same = h.3 ∙ (λ i. encoded (sym size i) ++ sym parts i) ∙ sym (text-bytes t (drop (span.start + span.len) bytes));
    }

-- six numbers in a row are a node
number-front : (bytes : List ℕ) (at n next k : ℕ) (ns rest : List ℕ) → NumberAt bytes at n next → Stands (OfLength k) (flat_map number_fields) (drop next bytes) ns rest → Stands (OfLength (suc k)) (flat_map number_fields) (drop at bytes) (n ∷ ns) rest
number-front bytes at n next k ns rest h s =
    record { kept = ap suc s.kept; narrow = (h.0, s.narrow); same = h.3 ∙ ap (λ l. encoded n ++ l) s.same ∙ sym (append_assoc (encoded n) (in_bytes (flat_map number_fields ns)) rest) }

pub node-stands : (bytes : List ℕ) (x : Node) (a b c d e f g : ℕ) → NumberAt bytes a x.kind b → NumberAt bytes b x.end c → NumberAt bytes c x.text d → NumberAt bytes d x.mark e → NumberAt bytes e x.from f → NumberAt bytes f x.to g → Stands Any node_fields (drop a bytes) x (drop g bytes)
node-stands bytes x a b c d e f g p q r s t u =
    let k = number-front bytes a _ b _ _ _ p (number-front bytes b _ c _ _ _ q (number-front bytes c _ d _ _ _ r (number-front bytes d _ e _ _ _ s (number-front bytes e _ f _ _ _ t (number-front bytes f _ g _ _ _ u (row-none number_fields (drop g bytes))))))) in
    record { kept = tt; narrow = k.narrow; same = k.same }
