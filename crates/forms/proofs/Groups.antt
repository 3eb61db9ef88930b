-- Facts of the groups of a number.
use Rattle.std.proofs.Common.{◌≡◌, ℕ, zero, suc, ◌+◌, ◌-◌, ◌*◌, ◌/◌, ◌%◌, ◌^◌, ◌<◌, ◌≤◌, ltb, ◌⊎◌, List, [], ◌∷◌, ◌++◌, length, sym, refl, ap, ◌∙◌, inl, inr, ⊎_elim, arith}
use Rattle.std.proofs.lemmas.Bool.{cases_lt, cond-true, cond-false, lt-ltb, le-ltb}
use Rattle.forms.specs.declared.number.NumberFault.{NumberFault}
use Rattle.forms.specs.declared.number.NumberFault.TheVariants.{CutShort, TooWide, NotShortest}
use Rattle.forms.specs.Numbers.{groups, encoded, bound, NumberFaulty, HigherFaulty}

pub groups-one : (more n : ℕ) → n < 128 → groups more n ≡ n ∷ []
groups-one zero n low = refl
groups-one (suc more) n low = cond-true (ltb n 128) _ _ (lt-ltb n 128 low)

pub groups_more : (more n : ℕ) → 128 ≤ n → groups (suc more) n ≡ (128 + n % 128) ∷ groups more (n / 128)
groups_more more n high = cond-false (ltb n 128) (n ∷ []) _ (le-ltb n 128 high)

-- a byte with its top bit set, and the groups of what is above it
pub groups-above : (more b n : ℕ) → 128 ≤ b → b < 256 → 0 < n → groups (suc more) (b - 128 + 128 * n) ≡ b ∷ groups more n
groups-above more b n set byte some =
    let low : 128 + (b - 128 + 128 * n) % 128 ≡ b = omega arith in
    let above : (b - 128 + 128 * n) / 128 ≡ n = omega arith in
    groups_more more (b - 128 + 128 * n) (omega arith) ∙ (λ i. low i ∷ groups more (above i))

pub bound_least : (more : ℕ) → 16 ≤ bound more
bound_least zero = omega arith
bound_least (suc more) = omega (arith, bound_least more)

pub bound_most : (more : ℕ) → more ≤ 3 → bound more ≤ 33554432
bound_most zero few = omega arith
bound_most (suc zero) few = omega arith
bound_most (suc (suc zero)) few = omega arith
bound_most (suc (suc (suc zero))) few = omega arith
bound_most (suc (suc (suc (suc more)))) few = absurd (omega arith)

heads : {a b : ℕ} {l m : List ℕ} → a ∷ l ≡ b ∷ m → a ≡ b
heads e = cc

tails : {a b : ℕ} {l m : List ℕ} → a ∷ l ≡ b ∷ m → l ≡ m
tails e = cc

no_bytes : {b : ℕ} {bs : List ℕ} → [] ≡ b ∷ bs → ⊥
no_bytes e = let never : ◌≡◌ {A = ℕ} 0 1 = cc in omega arith

not-cut : CutShort ≡ TooWide → ⊥
not-cut e = let never : ◌≡◌ {A = ℕ} 0 1 = cc in omega arith

not-cut' : CutShort ≡ NotShortest → ⊥
not-cut' e = let never : ◌≡◌ {A = ℕ} 0 1 = cc in omega arith

-- groups at the front of bytes: one that is the last, or one with others after it
split_groups : (more n : ℕ) (bs rest : List ℕ) → bs ≡ groups (suc more) n ++ rest → ((n < 128) × (bs ≡ n ∷ rest)) ⊎ ((128 ≤ n) × (bs ≡ (128 + n % 128) ∷ (groups more (n / 128) ++ rest)))
split_groups more n bs rest e =
    ⊎_elim
    (λ low. inl (low, e ∙ ap (λ l. l ++ rest) (groups-one (suc more) n low)))
    (λ high. inr (high, e ∙ ap (λ l. l ++ rest) (groups_more more n high)))
    (cases_lt n 128)

-- where a fault is, no number is
no_higher : (more : ℕ) (bs : List ℕ) (fault : NumberFault) (n : ℕ) (rest : List ℕ) → HigherFaulty more bs fault → 0 < n → n < bound more → bs ≡ groups more n ++ rest → ⊥
no_higher zero [] fault n rest f some less e = no_bytes e
no_higher zero (b ∷ bs) fault n rest (inl w) some less e = omega (arith, w.0, heads e)
no_higher zero (b ∷ bs) fault n rest (inr w) some less e = omega (arith, w.0, heads e)
no_higher (suc more) [] fault n rest f some less e = ⊎_elim (λ p. no_bytes p.1) (λ p. no_bytes p.1) (split_groups more n [] rest e)
no_higher (suc more) (b ∷ bs) fault n rest (inl w) some less e =
    ⊎_elim (λ p. omega (arith, w.0, heads p.1)) (λ p. omega (arith, w.0, heads p.1)) (split_groups more n (b ∷ bs) rest e)
no_higher (suc more) (b ∷ bs) fault n rest (inr w) some less e =
    ⊎_elim
    (λ p. omega (arith, p.0, w.0.0, heads p.1))
    (λ p. no_higher more bs fault (n / 128) rest w.1 (omega (arith, p.0)) (omega arith) (tails p.1))
    (split_groups more n (b ∷ bs) rest e)

pub no_number : (bs : List ℕ) (fault : NumberFault) (n : ℕ) (rest : List ℕ) → NumberFaulty bs fault → n < 2 ^ 32 → bs ≡ encoded n ++ rest → ⊥
unfolding encoded
no_number [] fault n rest f less e = ⊎_elim (λ p. no_bytes p.1) (λ p. no_bytes p.1) (split_groups 3 n [] rest e)
no_number (b ∷ bs) fault n rest f less e =
    ⊎_elim
    (λ p. omega (arith, p.0, f.0.0, heads p.1))
    (λ p. no_higher 3 bs fault (n / 128) rest f.1 (omega (arith, p.0)) (omega arith) (tails p.1))
    (split_groups 3 n (b ∷ bs) rest e)

-- what stands at the front is one number
one_number : (more m n : ℕ) (bs r s : List ℕ) → bs ≡ groups more m ++ r → bs ≡ groups more n ++ s → m ≡ n
one_number zero m n bs r s p q = heads (sym p ∙ q)
one_number (suc more) m n bs r s p q =
    ⊎_elim
    (λ a. ⊎_elim
    (λ b. heads (sym a.1 ∙ b.1))
    (λ b. absurd (omega (arith, a.0, heads (sym a.1 ∙ b.1))))
    (split_groups more n bs s q))
    (λ a. ⊎_elim
    (λ b. absurd (omega (arith, b.0, heads (sym a.1 ∙ b.1))))
    (λ b.
    let same = sym a.1 ∙ b.1 in
    omega (arith, heads same, one_number more (m / 128) (n / 128) (groups more (m / 128) ++ r) r s refl (tails same)))
    (split_groups more n bs s q))
    (split_groups more m bs r p)

pub encoded-one : (m n : ℕ) (r s : List ℕ) → encoded m ++ r ≡ encoded n ++ s → m ≡ n
unfolding encoded
encoded-one m n r s e = one_number 4 m n (encoded m ++ r) r s refl e

-- a fault stays, whatever comes after, unless the bytes end too early
higher_stays : (more : ℕ) (bs r : List ℕ) (fault : NumberFault) → (fault ≡ CutShort → ⊥) → HigherFaulty more bs fault → HigherFaulty more (bs ++ r) fault
higher_stays zero [] r fault other f = absurd (other f)
higher_stays (suc more) [] r fault other f = absurd (other f)
higher_stays zero (b ∷ bs) r fault other f = f
higher_stays (suc more) (b ∷ bs) r fault other (inl w) = inl w
higher_stays (suc more) (b ∷ bs) r fault other (inr w) = inr (w.0, higher_stays more bs r fault other w.1)

pub number_stays : (bs r : List ℕ) (fault : NumberFault) → (fault ≡ CutShort → ⊥) → NumberFaulty bs fault → NumberFaulty (bs ++ r) fault
number_stays [] r fault other f = absurd (other f)
number_stays (b ∷ bs) r fault other f = (f.0, higher_stays 3 bs r fault other f.1)

-- bytes that end too early can be completed
higher_completed : (more : ℕ) (bs : List ℕ) → HigherFaulty more bs CutShort → (n : ℕ) × (rest : List ℕ) × (0 < n) × (n < bound more) × (0 < length rest) × (bs ++ rest ≡ groups more n)
higher_completed zero [] f = (1, 1 ∷ [], omega arith, omega arith, omega arith, refl)
higher_completed (suc more) [] f = (1, 1 ∷ [], omega arith, omega (arith, bound_least more), omega arith, sym (groups-one (suc more) 1 (omega arith)))
higher_completed zero (b ∷ bs) (inl w) = absurd (not-cut w.1)
higher_completed zero (b ∷ bs) (inr w) = absurd (not-cut' w.1)
higher_completed (suc more) (b ∷ bs) (inl w) = absurd (not-cut' w.1)
higher_completed (suc more) (b ∷ bs) (inr w) =
    let k = higher_completed more bs w.1 in
    (b - 128 + 128 * k.0, k.1, omega (arith, k.2), omega (arith, k.3, w.0), k.4, ap (λ l. b ∷ l) k.5 ∙ sym (groups-above more b k.0 w.0.0 w.0.1 k.2))

pub number_completed : (bs : List ℕ) → NumberFaulty bs CutShort → (n : ℕ) × (rest : List ℕ) × (n < 2 ^ 32) × (0 < length rest) × (bs ++ rest ≡ encoded n)
unfolding encoded
number_completed [] f = (0, 0 ∷ [], omega arith, omega arith, sym (groups-one 4 0 (omega arith)))
number_completed (b ∷ bs) f =
    let k = higher_completed 3 bs f.1 in
    (b - 128 + 128 * k.0, k.1, omega (arith, k.3, f.0), k.4, ap (λ l. b ∷ l) k.5 ∙ sym (groups-above 3 b k.0 f.0.0 f.0.1 k.2))
