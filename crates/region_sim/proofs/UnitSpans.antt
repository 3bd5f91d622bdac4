-- The blocks that are simulated at once: those of a unit, or of one group.
use Rattle.std.proofs.Common.{◌≡◌, ◌<◌, ◌≤◌, ◌+◌, ◌-◌, ◌*◌, ◌/◌, inl, inr, ℕ, ap, ◌∙◌}
use Rattle.std.proofs.Common.{arith, refl}
use Rattle.std.specs.Prelude.{◌↔◌}
use Rattle.patterns.specs.Tests.{blocks}
use Rattle.flat_circuit.specs.declared.block_span.BlockSpan.{BlockSpan}
use Rattle.flat_circuit.specs.BlockSpans.{IsSpan, IsTogether, IsUnit}
use Rattle.region_sim.specs.Goals.{IsSweep}
use Rattle.region_sim.specs.Units.{unit_span}

abbrev unit_from : ℕ → ℕ → BlockSpan
unit_from first last = record { first = first; last = last }

-- a sweep of more than two blocks is a unit
module _ (tests : ℕ) (span : BlockSpan) (is : IsSweep tests span) where
  pub in_order : span.first ≤ span.last
  in_order = elim is [
    | inl s ↦ s.ordered
    | inr u ↦ (let last = u.1 in omega (arith, last))
  ]

  pub sweep_unit : 1 < span.last - span.first
      → IsUnit tests span.first × (span.last ≡ span.first + 7)
  sweep_unit many = elim is [
    | inl s ↦ (let one = s.one_group in let up = s.ordered in absurd (omega (arith, many, one, up)))
    | inr u ↦ u
  ]

  pub unit_is : 1 < span.last - span.first → span ≡ unit_span (span.first / 2)
  unit_is many =
      let u = sweep_unit many in
      let whole = u.0.whole in
      let first : span.first ≡ 2 * (span.first / 2) = omega (arith, whole) in
      let last : span.last ≡ 2 * (span.first / 2) + 7 = omega (arith, first, u.1) in
      ap (λ n. unit_from n span.last) first
      ∙ ap (unit_from (2 * (span.first / 2))) last

  -- and no other one is
  pub sweep_span : span.last - span.first ≤ 1 → IsSpan tests span
  sweep_span few = elim is [
    | inl s ↦ s
    | inr u ↦ (let last = u.1 in absurd (omega (arith, few, last)))
  ]

-- the tests of a unit are there
pub unit_within : (tests block : ℕ) → IsUnit tests block → block + 7 < blocks tests
unit_within tests block unit = let full = unit.full in omega (arith, full)

-- what is simulated at once from a block on is a sweep
module _ (tests block last : ℕ) (low : block < blocks tests)
    (together : (other : ℕ) → ((block ≤ other) × (other ≤ last)) ↔ IsTogether tests block other)
  where
    pub from_block : block ≤ last
    from_block = ((together block).1 (inr (record {
      ordered = omega arith;
      one_group = refl;
      within = low;
      alone = λ lt. refl;
    }))).1

    pub is_sweep : IsSweep tests (unit_from block last)
    is_sweep = elim ((together last).0 (from_block, omega arith)) [
      | inl u ↦ inr (
        u.1,
        (let below = u.3 in
            let whole = ((together (block + 7)).1 (inl (u.0, u.1, omega arith, omega arith))).1 in
            omega (arith, below, whole)),
      )
      | inr p ↦ inl (record { ordered = p.ordered; one_group = p.one_group; within = p.within })
    ]

    pub last_within : last < blocks tests
    last_within = elim ((together last).0 (from_block, omega arith)) [
      | inl u ↦ (let below = u.3 in let full = u.1.full in omega (arith, below, full))
      | inr p ↦ p.within
    ]
