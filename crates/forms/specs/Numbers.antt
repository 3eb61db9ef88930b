-- A number as bytes: the fewest groups of seven bits, lowest first, with the top bit set on all bytes but the last.
use Rattle.std.specs.Prelude.{◌≡◌, ℕ, zero, suc, ◌+◌, ◌*◌, ◌/◌, ◌%◌, ◌^◌, ◌<◌, ◌≤◌, cond, ◌⊎◌, List, [], ◌∷◌, ◌++◌, length, drop, nat_lt}
use Rattle.forms.specs.declared.number.NumberFault.{NumberFault}
use Rattle.forms.specs.declared.number.NumberFault.TheVariants.{CutShort, TooWide, NotShortest}

-- the groups of n: a last one, after at most `more` others
abbrev pub groups : ℕ → ℕ → List ℕ
groups zero n = n ∷ []
groups (suc more) n = cond (nat_lt n 128) (n ∷ []) ((128 + n % 128) ∷ groups more (n / 128))

-- a number of 32 bits has at most five groups
unfoldable pub encoded : ℕ → List ℕ
encoded n = groups 4 n

-- what lies above a number with `more` groups below a last one of four bits
abbrev pub bound : ℕ → ℕ
bound zero = 16
bound (suc more) = 128 * bound more

-- a byte with its top bit set
abbrev pub Continues : ℕ → Type 0
Continues b = (128 ≤ b) × (b < 256)

-- the bytes after a first group have this fault
abbrev pub HigherFaulty : ℕ → List ℕ → NumberFault → Type 0
HigherFaulty more [] fault = fault ≡ CutShort
HigherFaulty zero (b ∷ bs) fault = ((15 < b) × (fault ≡ TooWide)) ⊎ ((b ≡ 0) × (fault ≡ NotShortest))
HigherFaulty (suc more) (b ∷ bs) fault = ((b ≡ 0) × (fault ≡ NotShortest)) ⊎ (Continues b × HigherFaulty more bs fault)

-- no number stands at the front of the bytes, by this fault
abbrev pub NumberFaulty : List ℕ → NumberFault → Type 0
NumberFaulty [] fault = fault ≡ CutShort
NumberFaulty (b ∷ bs) fault = Continues b × HigherFaulty 3 bs fault

-- from `at` to `next` stand the groups of n, which is not 0
abbrev pub HigherAt : List ℕ → ℕ → ℕ → ℕ → ℕ → Type 0
HigherAt bytes at more n next = (0 < n) × (n < bound more) × (at < next) × (next ≤ length bytes) × (drop at bytes ≡ groups more n ++ drop next bytes)

-- from `at` to `next` stands the number n
abbrev pub NumberAt : List ℕ → ℕ → ℕ → ℕ → Type 0
NumberAt bytes at n next = (n < 2 ^ 32) × (at < next) × (next ≤ length bytes) × (drop at bytes ≡ encoded n ++ drop next bytes)
