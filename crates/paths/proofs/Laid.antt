-- Parts that are laid one after another: what they mean, and one more.
use Rattle.std.proofs.Common.{◌≡◌, ℕ, zero, suc, ◌+◌, ◌≤◌, true, false, ◌&&◌, eqb, List, [], ◌∷◌, ◌++◌, length, take, drop, IfSome, Some, None, Option, sym, refl, ap, ◌∙◌, arith, length-append, length-drop, length-take, take_all, drop_at, eq-eqb, eqb-true}
use lib.Seq.{take-append-le, drop-append-le}
use Rattle.std.proofs.lemmas.List.{drop_all}
use Rattle.std.specs.Option.{option_map}
use Rattle.syntax.specs.Meaning.{at, first}
use Rattle.tables.specs.Both.{and_left, and_right}
use Rattle.tables.specs.Sets.{has, distinct}
use Rattle.tables.specs.declared.part.Part.{Part}
use Rattle.tables.proofs.Sets.{distinct_push}
use Rattle.paths.specs.Alike.{same_path, total}
use Rattle.paths.specs.Parts.{meant_by, meant_all, starts, counts, Laid}
use Rattle.paths.specs.Same.{path_equivalence}
use Rattle.paths.specs.Spelling.{Path}
use Rattle.paths.specs.declared.interned.InternedPath.{InternedPath}
use Rattle.paths.specs.declared.mod_path.PathKind.{PathKind}
use Rattle.paths.specs.declared.name.Name.{Name}

-- ---- the paths of parts
pub meant-none : (segments : List Name) → meant_all [] segments ≡ []
unfolding meant_all
meant-none segments = refl

pub laid_none : Laid [] []
unfolding meant_all starts counts distinct
laid_none = (refl, refl, refl)

pub length-meant : (parts : List InternedPath) (segments : List Name) → length (meant_all parts segments) ≡ length parts
unfolding meant_all
length-meant [] segments = refl
length-meant (p ∷ parts) segments = ap suc (length-meant parts segments)

pub at-meant : (parts : List InternedPath) (segments : List Name) (i : ℕ) → at (meant_all parts segments) i ≡ option_map (meant_by segments) (at parts i)
unfolding meant_all
at-meant [] segments i = ap first (drop_all {X = Path} i [] (omega arith)) ∙ sym (ap (λ (ps : List InternedPath). option_map (meant_by segments) (first ps)) (drop_all {X = InternedPath} i [] (omega arith)))
at-meant (p ∷ parts) segments zero = refl
at-meant (p ∷ parts) segments (suc i) = at-meant parts segments i

meant_push : (parts : List InternedPath) (p : InternedPath) (segments : List Name) → meant_all (parts ++ p ∷ []) segments ≡ meant_all parts segments ++ meant_by segments p ∷ []
unfolding meant_all
meant_push [] p segments = refl
meant_push (q ∷ parts) p segments = ap (λ (x : List Path). meant_by segments q ∷ x) (meant_push parts p segments)

-- ---- where parts lie
record Head (p : InternedPath) (parts : List InternedPath) (n : ℕ) : Type 0 where
  here : p.names.first ≡ n
  later : starts parts (n + p.names.count) ≡ true

head-starts : (p : InternedPath) (parts : List InternedPath) (n : ℕ) → starts (p ∷ parts) n ≡ true → Head p parts n
unfolding starts
head-starts p parts n h = record {
  here = eqb-true p.names.first n (and_left (eqb p.names.first n) (starts parts (n + p.names.count)) h);
  later = and_right (eqb p.names.first n) (starts parts (n + p.names.count)) h;
}

starts_push : (parts : List InternedPath) (p : InternedPath) (n : ℕ) → starts parts n ≡ true → p.names.first ≡ n + counts parts → starts (parts ++ p ∷ []) n ≡ true
unfolding starts counts
starts_push [] p n h e = ap (λ b. b && true) (eq-eqb p.names.first n (let q : p.names.first ≡ n = omega arith in q))
starts_push (q ∷ parts) p n h e =
    let s = head-starts q parts n h in
    let at-end : p.names.first ≡ (n + q.names.count) + counts parts = omega arith in
    ap (λ b. b && starts (parts ++ p ∷ []) (n + q.names.count)) (eq-eqb q.names.first n s.here) ∙ starts_push parts p (n + q.names.count) s.later at-end

counts_push : (parts : List InternedPath) (p : InternedPath) → counts (parts ++ p ∷ []) ≡ counts parts + p.names.count
unfolding counts
counts_push [] p = omega arith
counts_push (q ∷ parts) p = let h = counts_push parts p in omega arith

-- a part lies inside the names
inside : (parts : List InternedPath) (n i : ℕ) (p : InternedPath) → starts parts n ≡ true → at parts i ≡ Some p → p.names.first + p.names.count ≤ n + counts parts
unfolding counts
inside [] n i p h e = let z : ◌≡◌ {A = ℕ} 0 1 = (let d = ap first (drop_all {X = InternedPath} i [] (omega arith)) in cc) in absurd (omega arith)
inside (q ∷ parts) n zero p h e =
    let s = head-starts q parts n h in
    let f : q ≡ p = cc in
    let a : q.names.first ≡ p.names.first = ap (λ (x : InternedPath). x.names.first) f in
    let b : q.names.count ≡ p.names.count = ap (λ (x : InternedPath). x.names.count) f in
    let c = s.here in
    omega arith
inside (q ∷ parts) n (suc i) p h e =
    let s = head-starts q parts n h in
    let r = inside parts (n + q.names.count) i p s.later e in
    omega arith

names-length : (segments : List Name) (p : InternedPath) → p.names.first + p.names.count ≤ length segments → length (meant_by segments p).names ≡ p.names.count
names-length segments p h = rw (length-take, length-drop) (omega arith)

-- parts mean the same when names follow
meant_more : (parts : List InternedPath) (n : ℕ) (segments more : List Name) → starts parts n ≡ true → n + counts parts ≤ length segments → meant_all parts (segments ++ more) ≡ meant_all parts segments
unfolding meant_all counts
meant_more [] n segments more h l = refl
meant_more (p ∷ parts) n segments more h l =
    let s = head-starts p parts n h in
    let a = s.here in
    let q : take p.names.count (drop p.names.first (segments ++ more)) ≡ take p.names.count (drop p.names.first segments) =
    (let x : p.names.first ≤ length segments = omega arith in
    let y : p.names.count ≤ length (drop p.names.first segments) = rw length-drop (omega arith) in
    ap (take p.names.count) (drop-append-le p.names.first segments more x) ∙ take-append-le p.names.count (drop p.names.first segments) more y) in
    ap (λ (x : List Name). record { kind = p.kind; names = x } ∷ meant_all parts (segments ++ more)) q
    ∙ ap (λ (x : List Path). meant_by segments p ∷ x) (meant_more parts (n + p.names.count) segments more s.later (omega arith))

total-is : (parts : List InternedPath) (n : ℕ) (segments : List Name) → starts parts n ≡ true → n + counts parts ≤ length segments → total (meant_all parts segments) ≡ counts parts
unfolding meant_all counts total
total-is [] n segments h l = refl
total-is (p ∷ parts) n segments h l =
    let s = head-starts p parts n h in
    let a = s.here in
    let q = names-length segments p (omega arith) in
    let r = total-is parts (n + p.names.count) segments s.later (omega arith) in
    omega arith

module _ (parts : List InternedPath) (segments : List Name) (laid : Laid parts segments) where
  pub total_laid : total (meant_all parts segments) ≡ length segments
  total_laid = let n = laid.1 in total-is parts 0 segments laid.0 (omega arith) ∙ sym n

  -- a row of the table has as many names as it counts
  pub count_laid : (i : ℕ) (p : InternedPath) → at parts i ≡ Some p → p.names.count ≡ length (meant_by segments p).names
  count_laid i p e = let n = laid.1 in let r = inside parts 0 i p laid.0 e in sym (names-length segments p (omega arith))

  pub some_laid : (i : ℕ) (r : Option InternedPath) → r ≡ at parts i → IfSome r (λ p. p.names.count ≡ length (meant_by segments p).names)
  some_laid i None e = tt
  some_laid i (Some p) e = count_laid i p (sym e)

  -- ---- one path more
  module _ (kind : PathKind) (names : List Name) (part : Part Name) (here : part.first ≡ length segments) (long : part.count ≡ length names) (qs : List InternedPath) (ss : List Name) (more : qs ≡ parts ++ record { kind = kind; names = part } ∷ []) (laying : ss ≡ segments ++ names) where
    pub meant_laid : meant_all qs ss ≡ meant_all parts segments ++ record { kind = kind; names = names } ∷ []
    meant_laid =
        let p : InternedPath = record { kind = kind; names = part } in
        let n = laid.1 in
        let new : take part.count (drop part.first (segments ++ names)) ≡ names =
        (λ i. take (long i) (drop (here i) (segments ++ names))) ∙ ap (take (length names)) (drop_at segments names (length segments) refl) ∙ take_all (length names) names (omega arith) in
        ap (λ (x : List InternedPath). meant_all x ss) more ∙ ap (λ (x : List Name). meant_all (parts ++ p ∷ []) x) laying ∙ meant_push parts p (segments ++ names)
        ∙ ap (λ (x : List Path). x ++ meant_by (segments ++ names) p ∷ []) (meant_more parts 0 segments names laid.0 (omega arith))
        ∙ ap (λ (x : List Name). meant_all parts segments ++ record { kind = kind; names = x } ∷ []) new

    pub laid_more : has same_path (meant_all parts segments) (record { kind = kind; names = names }) ≡ false → Laid qs ss
    laid_more absent =
        let p : InternedPath = record { kind = kind; names = part } in
        let n = laid.1 in
        let c : counts qs ≡ counts parts + length names = ap counts more ∙ counts_push parts p ∙ ap (λ n. counts parts + n) long in
        let d : length ss ≡ length segments + length names = ap length laying ∙ length-append segments names in
        let whole : length ss ≡ counts qs = omega arith in (
          ap (λ (x : List InternedPath). starts x 0) more ∙ starts_push parts p 0 laid.0 (omega arith),
          whole,
          ap (distinct same_path) meant_laid ∙ distinct_push same_path (meant_all parts segments) (record { kind = kind; names = names }) path_equivalence absent laid.2,
        )

-- ---- the same parts
pub meant-same : {ps qs : List InternedPath} {ss ts : List Name} → ps ≡ qs → ss ≡ ts → meant_all ps ss ≡ meant_all qs ts
meant-same e f = λ i. meant_all (e i) (f i)

pub laid_same : {ps qs : List InternedPath} {ss ts : List Name} → ps ≡ qs → ss ≡ ts → Laid qs ts → Laid ps ss
laid_same {ps} {qs} {ss} {ts} e f laid =
    let n = laid.1 in
    (ap (λ (x : List InternedPath). starts x 0) e ∙ laid.0, ap length f ∙ n ∙ sym (ap counts e), ap (distinct same_path) (meant-same e f) ∙ laid.2)

-- a row by its kind
pub more_is : (ps : List InternedPath) {qs : List InternedPath} {k l : PathKind} (part : Part Name) → qs ≡ ps ++ record { kind = k; names = part } ∷ [] → k ≡ l → qs ≡ ps ++ record { kind = l; names = part } ∷ []
more_is ps part e a = e ∙ (λ i. ps ++ record { kind = a i; names = part } ∷ [])
