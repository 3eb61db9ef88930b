-- The ways of reading a number.
use Rattle.std.proofs.Common.{◌≡◌, ℕ, zero, suc, ◌+◌, ◌-◌, ◌*◌, ◌^◌, ◌<◌, ◌≤◌, List, ◌∷◌, ◌++◌, length, get_or, drop, Ok, Err, Result, sym, refl, ap, ◌∙◌, subst, inl, inr, arith, length-append, length-drop, MatchResult}
use Rattle.std.proofs.lemmas.List.{drop_more, drop_all}
use Rattle.forms.specs.declared.number.NumberFault.{NumberFault}
use Rattle.forms.specs.declared.number.NumberFault.TheVariants.{CutShort, TooWide, NotShortest}
use Rattle.forms.specs.Numbers.{groups, Continues, encoded, NumberAt, HigherAt, NumberFaulty, HigherFaulty}
use Rattle.forms.proofs.Groups.{groups-one, groups-above, bound_least, no_number, encoded-one}

module _ (bytes : List ℕ) (at : ℕ) where
  -- nothing is there
  pub higher_cut : (more : ℕ) → length bytes ≤ at → HigherFaulty more (drop at bytes) CutShort
  higher_cut zero past = rw (drop_all at bytes past) refl
  higher_cut (suc more) past = rw (drop_all at bytes past) refl

  pub number_cut : length bytes ≤ at → NumberFaulty (drop at bytes) CutShort
  number_cut past = rw (drop_all at bytes past) refl

  -- a byte is there
  module _ (here : at < length bytes) where
    abbrev byte : ℕ
    byte = get_or bytes at 0

    front : drop at bytes ≡ byte ∷ drop (at + 1) bytes
    front = drop_more bytes at 0 here

    pub higher_wide : (more : ℕ) → more ≡ 0 → 15 < byte → HigherFaulty more (drop at bytes) TooWide
    higher_wide zero z wide = rw front (inl (wide, refl))
    higher_wide (suc more) z wide = absurd (omega arith)

    pub higher_long : (more : ℕ) → byte ≡ 0 → HigherFaulty more (drop at bytes) NotShortest
    higher_long zero z = rw front (inr (z, refl))
    higher_long (suc more) z = rw front (inl (z, refl))

    pub higher_fault : (more : ℕ) (fault : NumberFault) → 0 < more → Continues byte → HigherFaulty (more - 1) (drop (at + 1) bytes) fault → HigherFaulty more (drop at bytes) fault
    higher_fault zero fault some set f = absurd (omega arith)
    higher_fault (suc more) fault some set f =
        let less : suc more - 1 ≡ more = omega arith in
        rw front (inr (set, subst (λ m. HigherFaulty m (drop (at + 1) bytes) fault) less f))

    pub number_fault : (fault : NumberFault) → Continues byte → HigherFaulty 3 (drop (at + 1) bytes) fault → NumberFaulty (drop at bytes) fault
    number_fault fault set f = rw front (set, f)

    pub higher_last : (more : ℕ) → (more ≡ 0 → byte ≤ 15) → (byte ≡ 0 → ⊥) → byte < 128 → HigherAt bytes at more byte (at + 1)
    higher_last zero narrow some low = (omega (arith, some), omega (arith, narrow refl), omega arith, omega arith, front)
    higher_last (suc more) narrow some low = (omega (arith, some), omega (arith, bound_least more), omega arith, omega arith, rw (groups-one (suc more) byte low) front)

    pub number-last : byte < 128 → NumberAt bytes at byte (at + 1)
    unfolding encoded
    number-last low = (omega arith, omega arith, omega arith, rw (groups-one 4 byte low) front)

    module _ (n next : ℕ) (set : 128 ≤ byte) (small : byte < 256) where
      above : (more : ℕ) → HigherAt bytes (at + 1) more n next → drop at bytes ≡ groups (suc more) (byte - 128 + 128 * n) ++ drop next bytes
      above more h = rw (groups-above more byte n set small h.0) (front ∙ ap (λ l. byte ∷ l) h.4)

      pub higher_next : (more : ℕ) → 0 < more → HigherAt bytes (at + 1) (more - 1) n next → HigherAt bytes at more (byte - 128 + 128 * n) next
      higher_next zero some h = absurd (omega arith)
      higher_next (suc more) some h =
          let less : suc more - 1 ≡ more = omega arith in
          let k : HigherAt bytes (at + 1) more n next = subst (λ m. HigherAt bytes (at + 1) m n next) less h in
          (omega (arith, k.0), omega (arith, k.1), omega (arith, k.2), k.3, above more k)

      pub number-next : HigherAt bytes (at + 1) 3 n next → NumberAt bytes at (byte - 128 + 128 * n) next
      unfolding encoded
      number-next h = (omega (arith, h.1), omega (arith, h.2), h.3, above 3 h)

  -- what is encoded is read
  pub number_read : (r : Result (ℕ × ℕ) NumberFault) → MatchResult r (λ read. NumberAt bytes at read.0 read.1) (λ fault. NumberFaulty (drop at bytes) fault)
      → (n : ℕ) (rest : List ℕ) → n < 2 ^ 32 → drop at bytes ≡ encoded n ++ rest → r ≡ Ok (n, at + length (encoded n))
  number_read (Ok read) h n rest less e =
      let same : read.0 ≡ n = encoded-one read.0 n (drop read.1 bytes) rest (sym h.3 ∙ e) in
      let size = ap length h.3 ∙ length-append (encoded read.0) (drop read.1 bytes) in
      let next : read.1 ≡ at + length (encoded read.0) = omega (arith, size, length-drop at bytes, length-drop read.1 bytes, h.1, h.2) in
      ap Ok (λ i. (same i, (next ∙ ap (λ m. at + length (encoded m)) same) i))
  number_read (Err fault) h n rest less e = absurd (no_number (drop at bytes) fault n rest h less e)
