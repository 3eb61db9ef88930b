-- What a walk over siblings meets.
use Rattle.std.proofs.Common.{◌≡◌, ℕ, zero, suc, ◌+◌, ◌-◌, ◌<◌, ◌≤◌, Bool, true, false, cond, ltb, leb, ◌&&◌, ◌⊎◌, List, [], ◌∷◌, length, Some, None, Option, sym, refl, ap, ◌∙◌, subst, ⊎_elim, arith}
use Rattle.std.proofs.lemmas.Bool.{and_parts, ltb-true, leb-true, lt-ltb, le-leb, cases_Bool, cases_lt, cond-true, cond-false}
use Rattle.std.proofs.lemmas.List.Elements.{All-cons}
use Rattle.std.specs.List.{All}
use Rattle.syntax.specs.declared.node.Node.{Node}
use Rattle.syntax.specs.declared.walk.NodeRef.{NodeRef}
use Rattle.syntax.specs.Children.{met_at, met, walk, row, Row, StandsIn}
use Rattle.syntax.specs.Meaning.{Meaning, node_at}
use Rattle.syntax.proofs.Rows.{row-none, row-some, row_first}

-- one step, where P is known of what comes after a node that is met
met-cases : (P : List NodeRef → Type 0) (later : ℕ → List NodeRef) (i end : ℕ) (o : Option Node) → P [] → ((x : Node) → o ≡ Some x → i < x.end → x.end ≤ end → P (record { number = i; node = x } ∷ later x.end)) → P (met_at later i end o)
met-cases P later i end None nothing some = nothing
met-cases P later i end (Some x) nothing some =
    ⊎_elim
    (λ (h : (ltb i x.end && leb x.end end) ≡ true).
    let parts = and_parts (ltb i x.end) (leb x.end end) h in
    subst P (sym (cond-true _ (record { number = i; node = x } ∷ later x.end) [] h)) (some x refl (ltb-true i x.end parts.0) (leb-true x.end end parts.1)))
    (λ (h : (ltb i x.end && leb x.end end) ≡ false). subst P (sym (cond-false _ (record { number = i; node = x } ∷ later x.end) [] h)) nothing)
    (cases_Bool (ltb i x.end && leb x.end end))

cond_same : (b : Bool) (us vs ws : List NodeRef) → (b ≡ true → us ≡ vs) → cond b us ws ≡ cond b vs ws
cond_same true us vs ws same = same refl
cond_same false us vs ws same = refl

met_same : (later other : ℕ → List NodeRef) (i end : ℕ) (o : Option Node) → ((j : ℕ) → i < j → later j ≡ other j) → met_at later i end o ≡ met_at other i end o
met_same later other i end None same = refl
met_same later other i end (Some x) same =
    cond_same (ltb i x.end && leb x.end end) _ _ _ (λ h. ap (λ xs. record { number = i; node = x } ∷ xs) (same x.end (ltb-true i x.end (and_parts (ltb i x.end) (leb x.end end) h).0)))

module _ (m : Meaning) (end : ℕ) where
  met-past : (steps i : ℕ) → end ≤ i → met steps m end i ≡ []
  met-past zero i past = refl
  met-past (suc s) i past = met-cases (λ xs. xs ≡ []) (met s m end) i end (node_at m i) refl (λ x e up low. absurd (omega arith))

  -- more steps than numbers change nothing
  met_enough : (s t i : ℕ) → end - i ≤ s → end - i ≤ t → met s m end i ≡ met t m end i
  met_enough zero t i p q = sym (met-past t i (omega arith))
  met_enough (suc s) zero i p q = met-past (suc s) i (omega arith)
  met_enough (suc s) (suc t) i p q = met_same (met s m end) (met t m end) i end (node_at m i) (λ j after. met_enough s t j (omega arith) (omega arith))

  walk_unfolds : (i : ℕ) → walk m i end ≡ met_at (λ j. walk m j end) i end (node_at m i)
  unfolding walk
  walk_unfolds i =
      met_enough (end - i) (suc (end - i)) i (omega arith) (omega arith)
      ∙ met_same (met (end - i) m end) (λ j. met (end - j) m end j) i end (node_at m i) (λ j after. met_enough (end - i) (end - j) j (omega arith) (omega arith))

  -- nothing is met, or the node that stands there, and what comes after it
  walk-cases : (P : List NodeRef → Type 0) (i : ℕ) → P [] → ((x : Node) → node_at m i ≡ Some x → i < x.end → x.end ≤ end → P (record { number = i; node = x } ∷ walk m x.end end)) → P (walk m i end)
  walk-cases P i nothing some = subst P (sym (walk_unfolds i)) (met-cases P (λ j. walk m j end) i end (node_at m i) nothing some)

  pub walk-past : (i : ℕ) → end ≤ i → walk m i end ≡ []
  walk-past i past = walk-cases (λ xs. xs ≡ []) i refl (λ x e up low. absurd (omega arith))

  pub walk-absent : (i : ℕ) → node_at m i ≡ None → walk m i end ≡ []
  walk-absent i e = walk_unfolds i ∙ ap (met_at (λ j. walk m j end) i end) e

  pub walk_outside : (i : ℕ) (x : Node) → node_at m i ≡ Some x → (x.end ≤ i) ⊎ ((i < x.end) × (end < x.end)) → walk m i end ≡ []
  walk_outside i x e outside =
      walk-cases (λ xs. xs ≡ []) i refl
      (λ y here up low.
      let same : y ≡ x = cc in
      let y-end : y.end ≡ x.end = ap (λ z. z.end) same in
      ⊎_elim (λ (h : x.end ≤ i). absurd (omega arith)) (λ (h : (i < x.end) × (end < x.end)). absurd (omega (arith, h.1))) outside)

  pub walk_first : (i : ℕ) (x : Node) → node_at m i ≡ Some x → i < x.end → x.end ≤ end → walk m i end ≡ record { number = i; node = x } ∷ walk m x.end end
  walk_first i x e up low =
      walk_unfolds i ∙ ap (met_at (λ j. walk m j end) i end) e ∙ cond-true (ltb i x.end && leb x.end end) _ _ (λ k. lt-ltb i x.end up k && le-leb x.end end low k)

  row_step : (i : ℕ) → Row m i end → i < end → (o : Option Node) → node_at m i ≡ o → ((j : ℕ) → i < j → Row m j end → walk m j end ≡ row m j end) → walk m i end ≡ row m i end
  row_step i r some None e later = absurd (row-some m i end r some e)
  row_step i r some (Some x) e later =
      let f = row_first m i end x r some e in
      walk_first i x e f.0 f.1 ∙ ap (λ xs. record { number = i; node = x } ∷ xs) (later x.end f.0 f.2.rest) ∙ sym f.2.first

  -- a row is what a walk along it meets
  row_walked : (n i : ℕ) → end ≤ i + n → Row m i end → walk m i end ≡ row m i end
  row_walked zero i few r = walk-past i (omega arith) ∙ sym (row-none m i end r (omega arith))
  row_walked (suc n) i few r =
      ⊎_elim
      (λ (some : i < end). row_step i r some (node_at m i) refl (λ j after rest. row_walked n j (omega arith) rest))
      (λ (past : end ≤ i). walk-past i past ∙ sym (row-none m i end r past))
      (cases_lt i end)

  pub walk-row : (i : ℕ) → Row m i end → walk m i end ≡ row m i end
  walk-row i r = row_walked end i (omega arith) r

  walk_stands : (n i : ℕ) → end ≤ i + n → All (StandsIn m) (walk m i end)
  walk_stands zero i few = subst (All (StandsIn m)) (sym (walk-past i (omega arith))) (λ k d less. absurd (omega arith))
  walk_stands (suc n) i few =
      walk-cases (All (StandsIn m)) i (λ k d less. absurd (omega arith)) (λ x e up low. All-cons (StandsIn m) (record { number = i; node = x }) (walk m x.end end) e (walk_stands n x.end (omega arith)))

  -- each that is met stands in the source
  pub walk-stands : (i : ℕ) → All (StandsIn m) (walk m i end)
  walk-stands i = walk_stands end i (omega arith)

  walk_few : (n i : ℕ) → end ≤ i + n → length (walk m i end) ≤ end - i
  walk_few zero i few = subst (λ xs. length xs ≤ end - i) (sym (walk-past i (omega arith))) (omega arith)
  walk_few (suc n) i few =
      walk-cases (λ xs. length xs ≤ end - i) i (omega arith) (λ x e up low. omega (arith, walk_few n x.end (omega arith)))

  -- no more are met than there are numbers
  pub walk-few : (i : ℕ) → length (walk m i end) ≤ end - i
  walk-few i = walk_few end i (omega arith)

-- a walk by where it begins
pub walk-from : (m : Meaning) (end i j : ℕ) → i ≡ j → walk m i end ≡ walk m j end
walk-from m end i j same = ap (λ k. walk m k end) same

-- a walk over children begins at the number after their parent's
pub children-walked : (m : Meaning) (number i end : ℕ) → number ≤ i → (number < 4294967295 → i ≡ number + 1) → end ≤ 4294967295 → walk m i end ≡ walk m (number + 1) end
children-walked m number i end above next fits =
    ⊎_elim
    (λ (low : number < 4294967295). ap (λ j. walk m j end) (next low))
    (λ (high : 4294967295 ≤ number). walk-past m end i (omega arith) ∙ sym (walk-past m end (number + 1) (omega arith)))
    (cases_lt number 4294967295)
