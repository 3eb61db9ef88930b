-- The path that segments spell is the one that is read.
use Rattle.std.proofs.Common.{◌≡◌, ℕ, zero, suc, ◌+◌, ◌≤◌, Bool, true, false, List, [], ◌∷◌, ◌++◌, map, length, Some, None, Option, sym, refl, ap, ◌∙◌, subst, inl, inr, ⊎_elim, not-suc-le-zero, arith}
use Rattle.std.specs.Option.{option_map}
use Rattle.paths.specs.Exactness.{PathsStand}
use Rattle.paths.specs.Reading.{names_in, with_names, after_supers, read_as}
use Rattle.paths.specs.Spelling.{Path, Segment, name, nameless, self', super', crate', dollar_crate, supers, Begins, Spells}
use Rattle.paths.specs.declared.mod_path.PathKind.{PathKind}
use Rattle.paths.specs.declared.mod_path.PathKind.TheVariants.{Plain, Super, Crate, Abs, DollarCrate}
use Rattle.paths.specs.declared.name.Name.{Name}

never : {A : Type 0} (p : Path) → ◌≡◌ {A = Option Path} None (Some p) → A
never p e = absurd (cc)

-- names
names-read : (ns : List Name) → names_in (map name ns) ≡ Some ns
names-read [] = refl
names-read (n ∷ ns) = ap (option_map (λ xs. n ∷ xs)) (names-read ns)

mapped_some : {A B : Type 0} (f : A → B) (o : Option A) (y : B) → option_map f o ≡ Some y → (x : A) × ((o ≡ Some x) × (f x ≡ y))
mapped_some f None y e = cc
mapped_some f (Some x) y e = (x, (refl, (cc)))

names-spelled : (ss : List Segment) (ns : List Name) → names_in ss ≡ Some ns → ss ≡ map name ns
names-spelled [] ns e = let same : [] ≡ ns = cc in ap (map name) same
names-spelled (name n ∷ ss) ns e =
    let parts = mapped_some (λ xs. n ∷ xs) (names_in ss) ns e in
    ap (λ xs. name n ∷ xs) (names-spelled ss parts.0 parts.1.0) ∙ ap (map name) parts.1.1
names-spelled (nameless ∷ ss) ns e = cc
names-spelled (self' ∷ ss) ns e = cc
names-spelled (super' ∷ ss) ns e = cc
names-spelled (crate' ∷ ss) ns e = cc
names-spelled (dollar_crate ∷ ss) ns e = cc

abbrev made : PathKind → List Name → Path
made kind ns = record { kind = kind; names = ns }

with_read : (kind : PathKind) (ns : List Name) → with_names kind (map name ns) ≡ Some (made kind ns)
with_read kind ns = ap (option_map (made kind)) (names-read ns)

with_spelled : (kind : PathKind) (ss : List Segment) (p : Path) → with_names kind ss ≡ Some p → (p.kind ≡ kind) × (ss ≡ map name p.names)
with_spelled kind ss p e =
    let parts = mapped_some (made kind) (names_in ss) p e in
    (sym (ap (λ (q : Path). q.kind) parts.1.1), names-spelled ss parts.0 parts.1.0 ∙ ap (λ (q : Path). map name q.names) parts.1.1)

-- a run of `super`
supers-read : (n k : ℕ) (ns : List Name) → after_supers n (supers k ++ map name ns) ≡ Some (made (Super (n + k)) ns)
supers-read n zero [] = let e : n ≡ n + 0 = omega arith in ap (λ i. Some (made (Super i) [])) e
supers-read n zero (x ∷ ns) = let e : n ≡ n + 0 = omega arith in with_read (Super n) (x ∷ ns) ∙ ap (λ i. Some (made (Super i) (x ∷ ns))) e
supers-read n (suc k) ns = let e : n + 1 + k ≡ n + suc k = omega arith in supers-read (n + 1) k ns ∙ ap (λ i. Some (made (Super i) ns)) e

-- k times `super`, and names
pub record Run (n : ℕ) (ss : List Segment) (p : Path) : Type 0 where
  pub count : ℕ
  pub kind : p.kind ≡ Super (n + count)
  pub whole : ss ≡ supers count ++ map name p.names

run_none : (n : ℕ) (ss : List Segment) (p : Path) → with_names (Super n) ss ≡ Some p → Run n ss p
run_none n ss p e =
    let parts = with_spelled (Super n) ss p e in
    let same : n ≡ n + 0 = omega arith in
    record { count = 0; kind = parts.0 ∙ ap Super same; whole = parts.1 }

run-spelled : (n : ℕ) (ss : List Segment) (p : Path) → after_supers n ss ≡ Some p → Run n ss p
run-spelled n [] p e = run_none n [] p e
run-spelled n (name x ∷ ss) p e = run_none n (name x ∷ ss) p e
run-spelled n (nameless ∷ ss) p e = never p e
run-spelled n (self' ∷ ss) p e = never p e
run-spelled n (super' ∷ ss) p e =
    let later = run-spelled (n + 1) ss p e in
    let same : n + 1 + later.count ≡ n + suc later.count = omega arith in
    record { count = suc later.count; kind = later.kind ∙ ap Super same; whole = ap (λ xs. super' ∷ xs) later.whole }
run-spelled n (crate' ∷ ss) p e = never p e
run-spelled n (dollar_crate ∷ ss) p e = never p e

-- what is spelled is read
names-only : (leading : Bool) (kind : PathKind) → ((x : Name) (later : List Segment) → read_as leading (name x ∷ later) ≡ with_names kind (name x ∷ later)) → (ns : List Name) → 1 ≤ length (map name ns) → read_as leading (map name ns) ≡ Some (made kind ns)
names-only leading kind same [] some = absurd (not-suc-le-zero some)
names-only leading kind same (x ∷ ns) some = same x (map name ns) ∙ with_read kind (x ∷ ns)

supers-only : (n : ℕ) (ns : List Name) → 1 ≤ n → read_as false (supers n ++ map name ns) ≡ Some (made (Super n) ns)
supers-only zero ns some = absurd (not-suc-le-zero some)
supers-only (suc k) ns some = let e : 1 + k ≡ suc k = omega arith in supers-read 1 k ns ∙ ap (λ i. Some (made (Super i) ns)) e

begun-read : (leading : Bool) (kind : PathKind) (ns : List Name) (front : List Segment) → Begins leading kind front → 1 ≤ length (front ++ map name ns) → read_as leading (front ++ map name ns) ≡ Some (made kind ns)
begun-read leading Plain ns front b some =
    (λ k. read_as (b.0 k) (b.1 k ++ map name ns)) ∙ names-only false Plain (λ x later. refl) ns (subst (λ f. 1 ≤ length (f ++ map name ns)) b.1 some)
begun-read leading Abs ns front b some =
    (λ k. read_as (b.0 k) (b.1 k ++ map name ns)) ∙ names-only true Abs (λ x later. refl) ns (subst (λ f. 1 ≤ length (f ++ map name ns)) b.1 some)
begun-read leading (Super n) ns front b some =
    let same : 0 + n ≡ n = omega arith in
    ⊎_elim
    (λ (e : front ≡ self' ∷ supers n). (λ k. read_as (b.0 k) (e k ++ map name ns)) ∙ supers-read 0 n ns ∙ ap (λ i. Some (made (Super i) ns)) same)
    (λ (h : (1 ≤ n) × (front ≡ supers n)). (λ k. read_as (b.0 k) (h.1 k ++ map name ns)) ∙ supers-only n ns h.0)
    b.1
begun-read leading Crate ns front b some = (λ k. read_as (b.0 k) (b.1 k ++ map name ns)) ∙ with_read Crate ns
begun-read leading DollarCrate ns front b some = (λ k. read_as (b.0 k) (b.1 k ++ map name ns)) ∙ with_read DollarCrate ns

read-spelled : (leading : Bool) (ss : List Segment) (p : Path) → Spells leading ss p → read_as leading ss ≡ Some p
read-spelled leading ss p s = ap (read_as leading) s.whole ∙ begun-read leading p.kind p.names s.front s.begins (subst (λ xs. 1 ≤ length xs) s.whole s.some)

-- what is read is spelled
spelled-after : (leading : Bool) (front later : List Segment) (kind : PathKind) (p : Path) → Begins leading kind front → 1 ≤ length (front ++ later) → (p.kind ≡ kind) × (later ≡ map name p.names) → Spells leading (front ++ later) p
spelled-after leading front later kind p b some parts = record { front = front; begins = subst (λ k. Begins leading k front) (sym parts.0) b; whole = ap (λ xs. front ++ xs) parts.1; some = some }

spelled-read : (leading : Bool) (ss : List Segment) (p : Path) → read_as leading ss ≡ Some p → Spells leading ss p
spelled-read true [] p e = never p e
spelled-read false [] p e = never p e
spelled-read true (x ∷ ss) p e = spelled-after true [] (x ∷ ss) Abs p (refl, refl) (omega arith) (with_spelled Abs (x ∷ ss) p e)
spelled-read false (name n ∷ ss) p e = spelled-after false [] (name n ∷ ss) Plain p (refl, refl) (omega arith) (with_spelled Plain (name n ∷ ss) p e)
spelled-read false (nameless ∷ ss) p e = never p e
spelled-read false (self' ∷ ss) p e =
    let run = run-spelled 0 ss p e in
    let same : 0 + run.count ≡ run.count = omega arith in
    record { front = self' ∷ supers run.count; begins = subst (λ k. Begins false k (self' ∷ supers run.count)) (sym (run.kind ∙ ap Super same)) (refl, inl refl); whole = ap (λ xs. self' ∷ xs) run.whole; some = omega arith }
spelled-read false (super' ∷ ss) p e =
    let run = run-spelled 1 ss p e in
    let same : 1 + run.count ≡ suc run.count = omega arith in
    record { front = supers (suc run.count); begins = subst (λ k. Begins false k (supers (suc run.count))) (sym (run.kind ∙ ap Super same)) (refl, inr (omega arith, refl)); whole = ap (λ xs. super' ∷ xs) run.whole; some = omega arith }
spelled-read false (crate' ∷ ss) p e = spelled-after false (crate' ∷ []) ss Crate p (refl, refl) (omega arith) (with_spelled Crate ss p e)
spelled-read false (dollar_crate ∷ ss) p e = spelled-after false (dollar_crate ∷ []) ss DollarCrate p (refl, refl) (omega arith) (with_spelled DollarCrate ss p e)

none_read : (leading : Bool) (ss : List Segment) (o : Option Path) → read_as leading ss ≡ o → ((p : Path) → Spells leading ss p → ⊥) → o ≡ None
none_read leading ss None e unspelled = refl
none_read leading ss (Some p) e unspelled = absurd (unspelled p (spelled-read leading ss p e))

pub paths-stand : PathsStand
paths-stand leading ss = record {
  spelled = spelled-read leading ss;
  read = read-spelled leading ss;
  one = λ p q s t. cc (read-spelled leading ss p s, read-spelled leading ss q t);
  unspelled = λ none p s. never p (sym none ∙ read-spelled leading ss p s);
  unread = none_read leading ss (read_as leading ss) refl;
}
