-- The number of numbers of a range with a property, and the number of set bits of a word.
use Rattle.std.proofs.Common.{◌≡◌, ◌<◌, ◌≤◌, ◌+◌, ◌-◌, ◌/◌, ◌%◌, ◌^◌, ◌==◌, ℕ, zero, suc, Bool}
use Rattle.std.proofs.Common.{true, false, List, length, cond, refl, sym, ap, ◌∙◌, arith}
use Rattle.std.specs.{Prelude.{count_by, count_ones}, Bool.Decides, Int.Count.ones_step}
use Rattle.std.proofs.lemmas.Nat.{ones_le_self, Bits.{bit_at-suc, bit_at_lowest}}
use Rattle.list_lemmas.proofs.Places.{place_within}
use Rattle.bench_net.specs.Statement.{Statement}
use Rattle.fault_model.specs.{Fault.Fault, Solution.Test, Detection.DetectsAt}
use Rattle.patterns.specs.Least.{from_up, below}
use Rattle.flat_circuit.specs.Words.{lane}
use Rattle.n_detect.specs.CountLaws.{count_more, count_none, count_parts}

lowest : (r : ℕ) (b : Bool) → r < 2 → (r == 1) ≡ b → r ≡ cond b 1 0
lowest zero false lt e = refl
lowest zero true lt e = absurd (cc)
lowest (suc zero) true lt e = refl
lowest (suc zero) false lt e = absurd (cc)
lowest (suc (suc r)) b lt e = absurd (omega (arith, lt))

-- the bits of a word that are set are the numbers of a range, one a lane, that have the property
pub ones_lanes : (k w a : ℕ) (p : ℕ → Bool) → w < 2 ^ k → ((j : ℕ) → j < k → lane w j ≡ p (a + j))
    → count_ones w ≡ count_by p (from_up a k)
ones_lanes zero w a p few same =
    let none : w ≡ 0 = omega (arith, few) in
    let le = ones_le_self w in
    omega (arith, none, le)
ones_lanes (suc k) w a p few same =
    let half : w / 2 < 2 ^ k = omega (arith, few) in
    let rest = ones_lanes k (w / 2) (a + 1) p half (λ j lt. ap (λ x. x == 1) (sym (bit_at-suc w j))
    ∙ same (suc j) (omega (arith, lt))
    ∙ ap p (let q : a + suc j ≡ (a + 1) + j = omega arith in q)) in
    let own : (w % 2 == 1) ≡ p a = ap (λ x. x == 1) (sym (bit_at_lowest w)) ∙ same 0 (omega arith)
    ∙ ap p (let q : a + 0 ≡ a = omega arith in q) in
    let first = lowest (w % 2) (p a) (omega arith) own in
    let step = ones_step w in
    let front = count_more p a k in
    omega (arith, step, rest, first, front)

module _ (c : List Statement) (tests : List Test) (f : Fault) (detects : ℕ → Bool)
    (decides : (t : ℕ) → Decides (detects t) (DetectsAt c tests f t)) where
  -- no test past the last detects
  past : (t : ℕ) → length tests ≤ t → detects t ≡ false
  past t le = go (detects t) refl
    where
      go : (b : Bool) → detects t ≡ b → b ≡ false
      go false e = refl
      go true e =
          let d = (decides t).0 e in
          let lt = place_within tests t d.0 d.1 in
          absurd (omega (arith, lt, le))

  pub all_blocks : (n : ℕ) → length tests ≤ n
      → count_by detects (below n) ≡ count_by detects (below (length tests))
  all_blocks n le =
      let parts : n ≡ length tests + (n - length tests) = omega (arith, le) in
      let none = count_none detects (0 + length tests) (n - length tests)
      (λ j lt. past (0 + length tests + j) (omega arith)) in
      let both = count_parts detects 0 (length tests) (n - length tests) in
      ap (λ k. count_by detects (below k)) parts ∙ omega (arith, both, none)
