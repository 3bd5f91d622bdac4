-- The tests of a block that detect a fault, from a word of lanes in which it is detected.
use Rattle.std.proofs.Common.{◌≡◌, ◌<◌, ◌≤◌, ℕ, ◌+◌, ◌*◌, ◌-◌, ◌/◌, min, refl, sym, ◌∙◌, subst}
use Rattle.std.proofs.{Common.{Bool, true, false, List, [], length, arith}, lemmas.Bool.false≢true}
use Rattle.std.specs.{Prelude.{Some, slice_get}, Bool.Decides}
use Rattle.list_lemmas.proofs.Places.{within_place, place_within}
use Rattle.bench_net.specs.Statement.{Statement}
use Rattle.fault_model.specs.{Fault.Fault, Solution.{Test, Detects}, Detection.DetectsAt}
use Rattle.patterns.specs.declared.Outcome.{Outcome, TheVariants.{Clear, Hit}}
use Rattle.patterns.specs.Tests.{size_of}
use Rattle.flat_circuit.{specs.declared.block_span.BlockSpan.BlockSpan, proofs.Public.index_of}
use Rattle.flat_circuit.specs.BlockSpans.{AreInSpan, IsInSpan, group_of, one_block}
use Rattle.flat_circuit.specs.Words.{lane, test_of, IsLeastLane}
use Rattle.block_sim.specs.{First.{AreDetectingLanes, IsOutcome}, Flips.AreLanesFor}
use Rattle.block_sim.specs.ActiveGates.{HasActive, HasActiveIn}

module _ (c : List Statement) (tests : List Test) (span : BlockSpan) (f : Fault) (lanes word : ℕ)
    (decides : AreLanesFor tests span c f lanes) (settled : ℕ → Type 0)
    (found : (k : ℕ) → k < 128 → lane word k ≡ true
    → (lane lanes k ≡ true) × Detects c (test_of tests (group_of span) k) f)
    (clear : (k : ℕ) → k < 128 → lane lanes k ≡ true → lane word k ≡ false → (settled k → ⊥)
    → Detects c (test_of tests (group_of span) k) f → ⊥) where
  pub told_of_lanes : AreDetectingLanes c tests span f settled word
  told_of_lanes = record {
    found = λ k lt e.
        let h = found k lt e in
        let d = (decides k lt).0 h.0 in
        let at = within_place tests (128 * group_of span + k) d.0.listed in
        let same : test_of tests (group_of span) k ≡ at.0 =
        index_of tests (128 * group_of span + k) at.0 [] at.1 in
        (d.0, (at.0, at.1, subst (λ t. Detects c t f) same h.1, d.1));
    clear = λ k lt own unseen unsettled d.
        let same : test_of tests (group_of span) k ≡ d.0 =
        index_of tests (128 * group_of span + k) d.0 [] d.1 in
        clear k lt ((decides k lt).1 (own, d.3)) unseen unsettled
        (subst (λ t. Detects c t f) (sym same) d.2);
  }

module _ (c : List Statement) (tests : List Test) (block : ℕ) (f : Fault) (settled : ℕ
    → Type 0) (word own : ℕ)
    (detection : AreDetectingLanes c tests (one_block block) f settled word)
    (half : (k j : ℕ) → k < 64 → 64 * block + k ≡ 128 * (block / 2) + j
    → lane own k ≡ lane word j) where
  -- a lane of the block, in the word of its group
  abbrev place : ℕ → ℕ
  place k = 64 * block + k - 128 * (block / 2)

  at_place : (k : ℕ) → 64 * block + k ≡ 128 * (block / 2) + place k
  at_place k = omega arith

  low : (k : ℕ) → k < 64 → place k < 128
  low k lt = omega (arith, lt)

  same : (k : ℕ) → k < 64 → lane own k ≡ lane word (place k)
  same k lt = half k (place k) lt (at_place k)

  found : (k : ℕ) → k < 64 → lane own k ≡ true
      → IsInSpan (length tests) (one_block block) (64 * block + k)
      × DetectsAt c tests f (64 * block + k)
  found k lt e = subst (λ t. IsInSpan (length tests) (one_block block) t × DetectsAt c tests f t)
      (sym (at_place k)) (detection.found (place k) (low k lt) (sym (same k lt) ∙ e))

  clear : (k : ℕ) → k < 64 → lane own k ≡ false → (settled (place k) → ⊥)
      → DetectsAt c tests f (64 * block + k) → ⊥
  clear k lt e unsettled d =
      let listed = place_within tests (64 * block + k) d.0 d.1 in
      let here = at_place k in
      detection.clear (place k) (low k lt) (record {
        from = omega (arith, here);
        to = omega (arith, here, lt);
        listed = omega (arith, here, listed);
      }) (sym (same k lt) ∙ e) unsettled (subst (DetectsAt c tests f) here d)

  within_word : (k : ℕ) → k < size_of (length tests) block → k < 64
  within_word k few = let le : k < min 64 (length tests - 64 * block) = few in omega (arith, le)

  -- a lane of the group that is seen, at or below a lane of the block, is a lane of the block
  seen_below : (k j : ℕ) → k < 64 → j ≤ place k → lane word j ≡ true
      → (i : ℕ) × (i ≤ k) × (lane own i ≡ true)
  seen_below k j lt le e =
      let from = (detection.found j (let up = low k lt in omega (arith, up, le)) e).0.from in
      let here = at_place k in
      let there : 64 * block + (128 * (block / 2) + j - 64 * block) ≡ 128 * (block / 2) + j =
      omega (arith, from) in
      let down : 128 * (block / 2) + j - 64 * block ≤ k = omega (arith, here, le, from) in (
        128 * (block / 2) + j - 64 * block,
        down,
        half (128 * (block / 2) + j - 64 * block) j (omega (arith, down, lt)) there ∙ e,
      )

  -- if lanes are settled only at and above a lane that is 1, the least is the outcome
  pub outcome_of_lanes : ((k : ℕ) → k < 128 → settled k → (j : ℕ) × (j ≤ k) × (lane word j ≡ true))
      → (o : Outcome) → IsLeastLane own o → IsOutcome c tests f block o
  outcome_of_lanes ends Clear none = λ k few d.
      let lt = within_word k few in
      clear k lt (none k lt)
      (λ x. let j = ends (place k) (low k lt) x in let i = seen_below k j.0 lt j.1 j.2 in
      false≢true (sym (none i.0 (omega (arith, i.1, lt))) ∙ i.2)) d
  outcome_of_lanes ends (Hit k) least =
      let d = found k least.0 least.1 in
      let listed = d.0.listed in
      let bound = least.0 in (
        omega (arith, listed, bound),
        d.1,
        λ lower lt e.
            let in_word : lower < 64 = omega (arith, lt, bound) in
            clear lower in_word (least.2 lower lt)
            (λ x. let j = ends (place lower) (low lower in_word) x in
            let i = seen_below lower j.0 in_word j.1 j.2 in
            false≢true (sym (least.2 i.0 (omega (arith, i.1, lt))) ∙ i.2)) e,
      )

  -- if none is settled, the word has for each lane whether its test detects the fault
  pub decided_lanes : ((k : ℕ) → settled k → ⊥) → (k : ℕ) → k < 64
      → Decides (lane own k) (DetectsAt c tests f (64 * block + k))
  decided_lanes never k lt = (λ e. (found k lt e).1, λ d. by (lane own k) refl d)
    where
      by : (b : Bool) → lane own k ≡ b → DetectsAt c tests f (64 * block + k) → lane own k ≡ true
      by true e d = e
      by false e d = absurd (clear k lt e (never (place k)) d)

-- gates that are active only in lanes of a block are active on the block
pub active_on_block : (c : List Statement) (tests : List Test) (block : ℕ) (f : Fault) (lanes : ℕ)
    (gates : List ℕ) → AreInSpan tests (one_block block) lanes
    → HasActive c tests block f gates → HasActiveIn c tests (block / 2) lanes (λ _. f) gates
active_on_block c tests block f lanes gates within all gate h =
    let own = within h.0 h.2 h.3 in
    let from = own.from in
    let to = own.to in
    let listed = own.listed in
    let k = 128 * (block / 2) + h.0 - 64 * block in
    let place : 128 * (block / 2) + h.0 ≡ 64 * block + k = omega (arith, from) in
    all gate (
      k,
      h.1,
      omega (arith, to, listed, from),
      subst (λ t. slice_get tests t ≡ Some h.1) place h.4,
      h.5,
    )
