-- The tests of a block that detect a class, from the lanes of its group, and their number.
use Rattle.std.proofs.Common.{◌≡◌, ◌<◌, ◌+◌, ◌*◌, ◌-◌, ◌/◌, ◌^◌, ◌∙◌, ℕ, ap, arith, subst, sym}
use Rattle.std.specs.Prelude.{count_ones}
use Rattle.fault_model.specs.Detection.{DetectsAt}
use Rattle.flat_circuit.specs.Words.{lane}
use Rattle.block_sim.specs.{First.AreDetecting, Parts.Parts}
use Rattle.n_detect.{specs.ListLanes.AreGroupLanes, proofs.Public.ones_lanes}
use Rattle.faultsim_c.specs.Lanes.{IsBlockCount}

module _ (parts : Parts) (block class : ℕ) where
  pub block_lanes : (word own : ℕ) → AreGroupLanes parts (block / 2) class word
      → ((k j : ℕ) → k < 64 → 64 * block + k ≡ 128 * (block / 2) + j → lane own k ≡ lane word j)
      → AreDetecting parts.list.model parts.circuit parts.tests.tests class block own
  block_lanes word own is half = (
    is.0,
    is.1,
    λ k lt.
        let j = 64 * block + k - 128 * (block / 2) in
        let here : 64 * block + k ≡ 128 * (block / 2) + j = omega arith in
        let same = half k j lt here in
        let told = is.2 j (omega (arith, lt)) in (
          λ e. subst (DetectsAt parts.circuit parts.tests.tests is.0) (sym here)
              (told.0 (sym same ∙ e)),
          λ d. same ∙ told.1 (subst (DetectsAt parts.circuit parts.tests.tests is.0) here d),
        ),
  )

  -- the number of the word's lanes that are 1
  pub block_count : (own : ℕ) → own < 2 ^ 64
      → AreDetecting parts.list.model parts.circuit parts.tests.tests class block own
      → IsBlockCount parts class block (count_ones own)
  block_count own few is = record {
    fault = is.0;
    of = is.1;
    detects = λ k. lane own k;
    decides = is.2;
    number = ones_lanes 64 own 0 (λ k. lane own k) few
        (λ j lt. ap (λ (k : ℕ). lane own k) (let q : j ≡ 0 + j = omega arith in q));
  }
