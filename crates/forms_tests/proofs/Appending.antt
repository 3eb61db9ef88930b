-- Bytes after bytes, as far as they find room.
use Rattle.std.proofs.Common.{◌≡◌, ℕ, zero, suc, ◌+◌, ◌/◌, ◌%◌, ◌^◌, ◌<◌, ◌≤◌, List, [], ◌∷◌, ◌++◌, length, get_or, take, drop, min, sym, refl, ap, ◌∙◌, ⊎_elim, append_assoc, append-nil, Ok, Err, Result, arith, length-append}
use Rattle.std.proofs.lemmas.List.{take_all, take-append-le, drop_all, drop_more}
use Rattle.std.specs.Result.{OkIff, result_unwrap_or}
use Rattle.std.proofs.lemmas.Bool.{cases_lt}
use Rattle.tables.proofs.Rows.{length-held-le}
use Rattle.forms.specs.Numbers.{groups, encoded, bound}
use Rattle.forms.proofs.Groups.{groups-one, groups_more}
use Rattle.forms_tests.specs.Writing.{appended}

pub fits : (bytes more : List ℕ) → length bytes + length more ≤ 65536 → appended bytes more ≡ bytes ++ more
unfolding appended
fits bytes more room = take_all 65536 (bytes ++ more) (omega (arith, room, length-append bytes more))

pub full : (bytes more : List ℕ) → length bytes ≡ 65536 → appended bytes more ≡ bytes
unfolding appended
full bytes more none = take-append-le 65536 bytes more (omega (arith, none)) ∙ take_all 65536 bytes (omega (arith, none))

pub nothing : (bytes : List ℕ) → length bytes ≤ 65536 → appended bytes [] ≡ bytes
nothing bytes room = fits bytes [] (omega (arith, room)) ∙ append-nil bytes

cut-twice : (n : ℕ) (bytes more : List ℕ) → take n (take n bytes ++ more) ≡ take n (bytes ++ more)
cut-twice zero bytes more = refl
cut-twice (suc n) [] more = refl
cut-twice (suc n) (byte ∷ bytes) more = ap (λ l. byte ∷ l) (cut-twice n bytes more)

-- bytes in two steps
pub twice : (bytes more others : List ℕ) → appended (appended bytes more) others ≡ appended bytes (more ++ others)
unfolding appended
twice bytes more others = cut-twice 65536 (bytes ++ more) others ∙ ap (take 65536) (append_assoc bytes more others)

-- a number of 32 bits: its last group, or its first one and those of what is above it
pub encoded-last : (n : ℕ) → n < 128 → encoded n ≡ n ∷ []
unfolding encoded
encoded-last n low = groups-one 4 n low

one-group-less : (more n : ℕ) → n < bound more → groups more n ≡ groups (suc more) n
one-group-less zero n low = sym (groups-one 1 n (omega (arith, low)))
one-group-less (suc more) n low =
    ⊎_elim (λ last. groups-one (suc more) n last ∙ sym (groups-one (suc (suc more)) n last))
    (λ high. groups_more more n high ∙ ap (λ l. (128 + n % 128) ∷ l) (one-group-less more (n / 128) (omega (arith, low, high))) ∙ sym (groups_more (suc more) n high))
    (cases_lt n 128)

pub encoded_first : (n : ℕ) → 128 ≤ n → n < 2 ^ 32 → encoded n ≡ (128 + n % 128) ∷ encoded (n / 128)
unfolding encoded
encoded_first n high narrow = groups_more 3 n high ∙ ap (λ l. (128 + n % 128) ∷ l) (one-group-less 3 (n / 128) (omega (arith, high, narrow)))

-- a length, or the largest number of 32 bits
pub clipped : {E : Type 0} (r : Result ℕ E) (n : ℕ) → OkIff r (n < 4294967296) n → result_unwrap_or r 4294967295 ≡ min n 4294967295
clipped (Ok x) n h = omega (arith, h.0, h.1)
clipped (Err e) n h = ⊎_elim (λ less. absurd (h less)) (λ more. omega (arith, more)) (cases_lt n 4294967296)

-- what is left of the bytes, one byte before
pub next-dropped : (bytes : List ℕ) (i : ℕ) → i < length bytes → get_or bytes i 0 ∷ drop (i + 1) bytes ≡ drop i bytes
next-dropped bytes i inside = sym (drop_more bytes i 0 inside)

pub ruleset appending = (fits, full, nothing, twice, encoded-last, encoded_first, clipped, next-dropped, drop_all, length-held-le)
