-- The lanes of capture tests, the second tests of pairs.
use Rattle.std.proofs.Common.{◌≡◌, ◌⊎◌, ◌<◌, ◌≤◌, ◌+◌, ◌*◌, ◌/◌, ◌%◌, ◌&&◌, inl, inr, ℕ, zero, suc}
use Rattle.std.{proofs.Common.{Bool, true, refl, sym, ap, ◌∙◌, subst, arith}, specs.Bool.Decides}
use Rattle.std.specs.{Prelude.{◌==◌, bit_and}, Int.bit_at}
use Rattle.std.proofs.lemmas.Bool.{and_parts, cases_lt, eqb-true, eq-eqb}
use Rattle.fault_model.specs.Detection.{IsSecondOfPair}
use Rattle.flat_circuit.{specs.Words.lane, proofs.Public.lane_and}

odd_second : (t : ℕ) → t % 2 ≡ 1 → IsSecondOfPair t
odd_second t e = (t / 2, omega (arith, e))

second_odd : (t : ℕ) → IsSecondOfPair t → t % 2 ≡ 1
second_odd t h = let e : t ≡ 2 * h.0 + 1 = h.1 in omega (arith, e)

pub second_or : (t : ℕ) → IsSecondOfPair t ⊎ (IsSecondOfPair t → ⊥)
second_or t = go (cases_lt (t % 2) 1)
  where
    go : (t % 2 < 1) ⊎ (1 ≤ t % 2) → IsSecondOfPair t ⊎ (IsSecondOfPair t → ⊥)
    go (inl lt) = inr (λ h. let odd = second_odd t h in absurd (omega (arith, lt, odd)))
    go (inr le) = inl (odd_second t (omega (arith, le)))

abbrev passes_below : (ℕ → Bool) → ℕ → Bool
passes_below p zero = true
passes_below p (suc n) = p n && passes_below p n

passes : (p : ℕ → Bool) (n k : ℕ) → passes_below p n ≡ true → k < n → p k ≡ true
passes p zero k e lt = absurd (omega (arith, lt))
passes p (suc n) k e lt = go (passes p n k (and_parts (p n) (passes_below p n) e).1) (cases_lt k n)
  where
    go : (k < n → p k ≡ true) → (k < n) ⊎ (n ≤ k) → p k ≡ true
    go below (inl l) = below l
    go below (inr g) = let same : n ≡ k = omega (arith, lt, g) in
        subst (λ j. p j ≡ true) same (and_parts (p n) (passes_below p n) e).0

-- the word whose lanes of odd number are 1
odd_lanes : (k : ℕ) → k < 128 → bit_at 226854911280625642308916404954512140970 k ≡ k % 2
odd_lanes k lt = eqb-true _ _ (passes
    (λ j. bit_at 226854911280625642308916404954512140970 j == j % 2) 128 k refl lt)

pub seconds_decide : (group k : ℕ) → k < 128
    → Decides (lane 226854911280625642308916404954512140970 k) (IsSecondOfPair (128 * group + k))
seconds_decide group k lt = (there, back)
  where
    is : lane 226854911280625642308916404954512140970 k ≡ (k % 2 == 1)
    is = ap (λ x. x == 1) (odd_lanes k lt)

    there : lane 226854911280625642308916404954512140970 k ≡ true → IsSecondOfPair (128 * group + k)
    there e = let odd : k % 2 ≡ 1 = eqb-true (k % 2) 1 (sym is ∙ e) in
        odd_second (128 * group + k) (omega (arith, odd))

    back : IsSecondOfPair (128 * group + k) → lane 226854911280625642308916404954512140970 k ≡ true
    back h = let odd = second_odd (128 * group + k) h in is ∙ eq-eqb (k % 2) 1 (omega (arith, odd))

-- a lane of two words is 1 if it is 1 in both
pub both_decide : (a b k : ℕ) (P Q : Type 0) → Decides (lane a k) P → Decides (lane b k) Q
    → Decides (lane (bit_and a b) k) (P × Q)
both_decide a b k P Q p q = (there, back)
  where
    there : lane (bit_and a b) k ≡ true → P × Q
    there e = let parts = and_parts (lane a k) (lane b k) (sym (lane_and a b k) ∙ e) in
        (p.0 parts.0, q.0 parts.1)

    back : P × Q → lane (bit_and a b) k ≡ true
    back h = lane_and a b k ∙ (ap (λ x. x && lane b k) (p.1 h.0) ∙ q.1 h.1)
