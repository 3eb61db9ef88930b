-- No two entries of a run's inventory have the same id.
use Rattle.std.proofs.Common.{◌≡◌, ℕ, ◌+◌, ◌<◌, ◌≤◌, true, false, cond, ◌||◌, eqb, ◌⊎◌, Some, None, Option, sym, refl, ap, ◌∙◌, subst, inl, inr, arith, eq-eqb}
use Rattle.std.proofs.lemmas.Bool.{eqb-true, or_cases, or_left, or_right, cond_both, false_from_ne_true, false≢true}
use Rattle.syntax.specs.Meaning.{Meaning}
use Rattle.syntax.specs.Trees.{Siblings, none, node}
use Rattle.syntax.specs.declared.walk.NodeRef.{NodeRef}
use Rattle.items.specs.Attributes.{attributes_of}
use Rattle.rules.proofs.Ids.{counted}
use Rattle.rules.specs.Entries.{Record, Size, small, big, size_of, id_of, record_of, has_items, Entry, Entries, empty, entry, ids, followed}
use Rattle.rules.specs.Holding.{is_id}
use Rattle.rules.specs.Inventory.{Counts, of_size, plus_one, plus, placed, entries_from}

same_id : (s t : Size) (k j : ℕ) → id_of s k ≡ id_of t j → (s ≡ t) × (k ≡ j)
same_id small small k j e = (refl, omega arith)
same_id small big k j e = absurd (omega arith)
same_id big small k j e = absurd (omega arith)
same_id big big k j e = (refl, omega arith)

-- an id whose index lies among those of its size from a to before b
pub record Among (a b : Counts) (n : ℕ) : Type 0 where
  pub size : Size
  pub index : ℕ
  pub is : n ≡ id_of size index
  pub from : of_size size a ≤ index
  pub to : index < of_size size b

-- ids below a place and ids from it on differ
pub among-apart : (a b c d : Counts) (n : ℕ) → ((s : Size) → of_size s b ≤ of_size s c) → Among a b n → Among c d n → ⊥
among-apart a b c d n le p q =
    let e = same_id p.size q.size p.index q.index (sym p.is ∙ q.is) in
    let f : of_size p.size c ≡ of_size q.size c = ap (λ s. of_size s c) e.0 in
    omega (arith, p.to, q.from, le p.size, e.1, f)

among_wider : (a b c d : Counts) (n : ℕ) → ((s : Size) → of_size s c ≤ of_size s a) → ((s : Size) → of_size s b ≤ of_size s d) → Among a b n → Among c d n
among_wider a b c d n low high p =
    let l = low p.size in
    let h = high p.size in
    record { size = p.size; index = p.index; is = p.is; from = omega (arith, l, p.from); to = omega (arith, h, p.to) }

pub plus-up : (n : Counts) (es : Entries) (s : Size) → of_size s n ≤ of_size s (plus n es)
plus-up n es s = omega (arith, counted s es n)

one_up : (t : Size) (n : Counts) (s : Size) → of_size s n ≤ of_size s (plus_one t n)
one_up small n small = omega arith
one_up small n big = omega arith
one_up big n small = omega arith
one_up big n big = omega arith

one_more : (t : Size) (n : Counts) → of_size t (plus_one t n) ≡ of_size t n + 1
one_more small n = refl
one_more big n = refl

-- no id stands twice
abbrev pub Apart : Entries → Type 0
Apart empty = Unit {0}
Apart (entry e inside later) =
    (is_id e.id inside ≡ false) × (is_id e.id later ≡ false) × ((n : ℕ) → is_id n inside ≡ true → is_id n later ≡ true → ⊥) × Apart inside × Apart later

abbrev Ranged : Counts → Entries → Type 0
Ranged a es = (n : ℕ) → is_id n es ≡ true → Among a (plus a es) n

-- an entry after those inside it and before those after it
module _ (a : Counts) (e : Entry) (inside later : Entries) (numbered : e.id ≡ id_of (size_of e.item) (of_size (size_of e.item) (plus a inside))) where
  abbrev t : Size
  t = size_of e.item

  abbrev b : Counts
  b = plus a inside

  abbrev c : Counts
  c = plus_one t b

  abbrev d : Counts
  d = plus c later

  own-among : Among b c e.id
  own-among = let m = one_more t b in record { size = t; index = of_size t b; is = numbered; from = omega arith; to = omega (arith, m) }

  entry-ranged : Ranged a inside → Ranged c later → Ranged a (entry e inside later)
  entry-ranged f g n h =
      elim (or_cases (eqb e.id n) (is_id n inside || is_id n later) h) [
        | inl y ↦
            among_wider b c a d n (plus-up a inside) (plus-up c later) (subst (Among b c) (eqb-true e.id n y) own-among)
        | inr y ↦
            elim (or_cases (is_id n inside) (is_id n later) y) [
              | inl z ↦ among_wider a b a d n (λ s. omega arith) (λ s. omega (arith, one_up t b s, plus-up c later s)) (f n z)
              | inr z ↦ among_wider c d a d n (λ s. omega (arith, plus-up a inside s, one_up t b s)) (λ s. omega arith) (g n z)
            ]
      ]

  entry-apart : Ranged a inside → Ranged c later → Apart inside → Apart later → Apart (entry e inside later)
  entry-apart f g p q = (
    false_from_ne_true (is_id e.id inside) (λ h. among-apart a b b c e.id (λ s. omega arith) (f e.id h) own-among),
    false_from_ne_true (is_id e.id later) (λ h. among-apart b c c d e.id (λ s. omega arith) own-among (g e.id h)),
    λ n h k. among-apart a b c d n (one_up t b) (f n h) (g n k),
    p,
    q,
  )

pub record Good (a : Counts) (es : Entries) : Type 0 where
  pub ranged : Ranged a es
  pub apart : Apart es

placed_good : (m : Meaning) (a : Counts) (x : NodeRef) (inside : Entries) (later : Counts → Entries) (r : Option Record) → Good a inside → ((n : Counts) → Good n (later n)) → Good a (placed m a x inside later r)
placed_good m a x inside later None f g = g a
placed_good m a x inside later (Some r) f g =
    let b = plus a inside in
    let e : Entry = record { id = id_of (size_of r) (of_size (size_of r) b); ast_id = x.number; item = r; attrs = attributes_of m x } in
    let after = g (plus_one (size_of r) b) in
    record {
      ranged = entry-ranged a e inside (later (plus_one (size_of r) b)) refl f.ranged after.ranged;
      apart = entry-apart a e inside (later (plus_one (size_of r) b)) refl f.ranged after.ranged f.apart after.apart;
    }

nothing_good : (a : Counts) → Good a empty
nothing_good a = record { ranged = λ n h. absurd (false≢true h); apart = tt }

pub entries_good : (m : Meaning) (a : Counts) (i : ℕ) (items : Siblings) → Good a (entries_from m a i items)
entries_good m a i none = nothing_good a
entries_good m a i (node x children later) =
    let here : NodeRef = record { number = i; node = x } in
    let inside = cond (has_items x) (entries_from m a (i + 1) children) empty in
    placed_good m a here inside (λ n. entries_from m n x.end later) (record_of m here (ids inside)) (cond_both (has_items x) _ empty (Good a) (λ _. entries_good m a (i + 1) children) (λ _. nothing_good a)) (λ n. entries_good m n x.end later)

pub own-id : (e : Entry) (inside later : Entries) → is_id e.id (entry e inside later) ≡ true
own-id e inside later = or_left (eqb e.id e.id) (is_id e.id inside || is_id e.id later) (eq-eqb e.id e.id refl)

pub plus-followed : (a : Counts) (es fs : Entries) → plus a (followed es fs) ≡ plus (plus a es) fs
plus-followed a empty fs = refl
plus-followed a (entry e inside later) fs = plus-followed (plus_one (size_of e.item) (plus a inside)) later fs

pub is_id-followed : (n : ℕ) (es fs : Entries) → is_id n (followed es fs) ≡ true → (is_id n es ≡ true) ⊎ (is_id n fs ≡ true)
is_id-followed n empty fs h = inr h
is_id-followed n (entry e inside later) fs h =
    elim (or_cases (eqb e.id n) (is_id n inside || is_id n (followed later fs)) h) [
      | inl y ↦ inl (rw y refl)
      | inr y ↦
          elim (or_cases (is_id n inside) (is_id n (followed later fs)) y) [
            | inl z ↦ inl (or_right (eqb e.id n) (is_id n inside || is_id n later) (rw z refl))
            | inr z ↦
                elim (is_id-followed n later fs z) [
                  | inl w ↦ inl (or_right (eqb e.id n) (is_id n inside || is_id n later) (or_right (is_id n inside) (is_id n later) w))
                  | inr w ↦ inr w
                ]
          ]
    ]

followed-apart : (es fs : Entries) → Apart es → Apart fs → ((n : ℕ) → is_id n es ≡ true → is_id n fs ≡ true → ⊥) → Apart (followed es fs)
followed-apart empty fs p q h = q
followed-apart (entry e inside later) fs p q h = (
  p.0,
  false_from_ne_true (is_id e.id (followed later fs)) (λ k. elim (is_id-followed e.id later fs k) [ inl y ↦ false≢true (sym p.1 ∙ y) | inr y ↦ h e.id (own-id e inside later) y ]),
  λ n k l. elim (is_id-followed n later fs l) [ inl y ↦ p.2 n k y | inr y ↦ h n (or_right (eqb e.id n) (is_id n inside || is_id n later) (or_left (is_id n inside) (is_id n later) k)) y ],
  p.3,
  followed-apart later fs p.4 q (λ n k l. h n (or_right (eqb e.id n) (is_id n inside || is_id n later) (or_right (is_id n inside) (is_id n later) k)) l),
)

pub followed_good : (a : Counts) (es fs : Entries) → Good a es → Good (plus a es) fs → Good a (followed es fs)
followed_good a es fs p q = record {
  ranged = λ n h. subst (λ b. Among a b n) (sym (plus-followed a es fs)) (elim (is_id-followed n es fs h) [
    | inl y ↦ among_wider a (plus a es) a (plus (plus a es) fs) n (λ s. omega arith) (plus-up (plus a es) fs) (p.ranged n y)
    | inr y ↦ among_wider (plus a es) (plus (plus a es) fs) a (plus (plus a es) fs) n (plus-up a es) (λ s. omega arith) (q.ranged n y)
  ]);
  apart = followed-apart es fs p.apart q.apart (λ n k l. among-apart a (plus a es) (plus a es) (plus (plus a es) fs) n (λ s. omega arith) (p.ranged n k) (q.ranged n l));
}
