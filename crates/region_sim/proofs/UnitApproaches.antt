-- The lanes of a unit, and what the simulation's circuit tells of the job's.
use Rattle.std.proofs.Common.{◌≡◌, ◌<◌, ◌≤◌, ◌+◌, ◌*◌, ◌/◌, ◌%◌, ℕ, refl, sym, ◌∙◌, ap, subst, Bool}
use Rattle.std.{proofs.Common.{true, false, List, [], length, arith, inl, inr}, specs.Bool.Decides}
use Rattle.std.specs.Prelude.{◌↔◌, ◌⊎◌, Option, None, bit_and, slice_index_or, unwrap_or}
use Rattle.std.proofs.lemmas.{Bool.false≢true, Option.slice_get-get_or}
use Rattle.bench_net.specs.{Statement.Statement, Circuit.IsWellFormed}
use Rattle.fault_model.specs.{Detection.{DetectsAt, LooksBack}, Fault.Fault}
use Rattle.fault_model.specs.{Reordered.{moved_fault, place}, Solution.{Detects, Test}}
use Rattle.fault_model.proofs.Public.{detected_same}
use Rattle.wide_words.specs.{Layouts.both_layout, Wide.number, declared.wide.Wide.Wide}
use Rattle.region_sim.specs.declared.unit_start.WideReach.TheVariants.{Observed}
use Rattle.region_sim.specs.{Goals.{AreHits, HasTakenSpan}, UnitHits.{HasTakenUnit, TellUnitHits}}
use Rattle.region_sim.specs.Units.{ArrivesInUnit, HaveCome, IsWideReached, TellsUnit, group_in}
use Rattle.region_sim.{specs.Units.{lane_test, unit_span}, proofs.OneLane.bit_cases}
use Rattle.flat_circuit.specs.{Arranged.IsArranged, Words.{lane, test_of}}
use Rattle.flat_circuit.proofs.Public.{lane_zero, reordered}
use Rattle.block_sim.specs.{Flips.DetectsFlip, Parts.Parts, First.IsFirstOn}
use Rattle.block_sim.proofs.Public.{lanes_both, lanes_first, lanes_second, same_flips}

-- the test of a lane, by its number
pub lane_number : (tests : List Test) (group k : ℕ)
    → lane_test tests both_layout (group_in group) k ≡ test_of tests group k
lane_number tests group k =
    let number : 128 * (group + k / 128) + (0 + k % 128) ≡ 128 * group + k = omega arith in
    ap (λ n. slice_index_or tests n []) number

module _ (c d : List Statement) (well : IsWellFormed c) (arranged : IsArranged c d)
    (tests : List Test) (group : ℕ) (full : 128 * group + 512 ≤ length tests) (f : Fault)
    (launch : ℕ) (looks : (k : ℕ) → k < 512
    → Decides (lane launch k) (LooksBack c tests f.model f.line f.stuck (128 * group + k))) where
  there : (k : ℕ) → k < 512 → DetectsAt c tests f (128 * group + k) → (lane launch k ≡ true)
      × Detects d (lane_test tests both_layout (group_in group) k) (moved_fault c d f)
  there k lt h =
      let listed : 128 * group + k < length tests = omega (arith, full, lt) in
      let get = slice_get-get_or tests (128 * group + k) [] listed in
      let same : h.0 ≡ test_of tests group k =
      ap (λ (o : Option Test). unwrap_or o h.0) (sym h.1 ∙ get) in (
        (looks k lt).1 h.3,
        subst (λ t. Detects d t (moved_fault c d f)) (sym (lane_number tests group k))
            ((detected_same c d well (reordered c d well arranged) (test_of tests group k) f).0
            (subst (λ t. Detects c t f) same h.2)),
      )

  back : (k : ℕ) → k < 512 → lane launch k ≡ true
      → Detects d (lane_test tests both_layout (group_in group) k) (moved_fault c d f)
      → DetectsAt c tests f (128 * group + k)
  back k lt on detects =
      let listed : 128 * group + k < length tests = omega (arith, full, lt) in (
        test_of tests group k,
        slice_get-get_or tests (128 * group + k) [] listed,
        (detected_same c d well (reordered c d well arranged) (test_of tests group k) f).1
            (subst (λ t. Detects d t (moved_fault c d f)) (lane_number tests group k) detects),
        (looks k lt).0 on,
      )

  pub known_in_unit : (word : Wide)
      → IsWideReached d tests both_layout (group_in group) (moved_fault c d f) launch
      (Observed word) → (k : ℕ) → k < 512
      → Decides (lane (number word) k) (DetectsAt c tests f (128 * group + k))
  known_in_unit word reached k lt = (
    λ e. (let h = (reached k lt).0 e in back k lt h.0 h.1),
    λ h. (let own = there k lt h in (reached k lt).1 own),
  )

  pub comes_in_unit : (s word : ℕ)
      → HaveCome d tests both_layout (group_in group) (moved_fault c d f) launch (place c d s) word
      → (k : ℕ) → k < 512 → DetectsAt c tests f (128 * group + k)
      ↔ ((lane (bit_and launch word) k ≡ true) × DetectsFlip c (test_of tests group k) s)
  comes_in_unit s word come k lt = (
    λ h. (let own = there k lt h in
        let at = (come k lt own.0).0 own.1 in (
          lanes_both launch word k own.0 at.0,
          (flips (test_of tests group k)).1
              (subst (λ t. DetectsFlip d t (place c d s)) (lane_number tests group k) at.1),
        )),
    λ p. (let on = lanes_first launch word k p.0 in
        back k lt on ((come k lt on).1 (
          lanes_second launch word k p.0,
          subst (λ t. DetectsFlip d t (place c d s)) (sym (lane_number tests group k))
              ((flips (test_of tests group k)).0 p.1),
        ))),
  )
    where
      flips : (t : Test) → DetectsFlip c t s ↔ DetectsFlip d t (place c d s)
      flips t = (same_flips c d well (reordered c d well arranged)).detected t s

-- ---- the hits of a class on a unit
module _ (job : Parts) (group class : ℕ) (all : Bool) (hits : ℕ → Bool)
    (h : AreHits job class hits) where
  -- lanes that are known tell them
  pub unit_known : (word : ℕ) → TellsUnit job group class word → TellUnitHits all hits group word
  unit_known word told =
      let same : told.0 ≡ h.0 = ap (λ o. unwrap_or o told.0) (sym told.1 ∙ h.1) in
      let detects = λ (k : ℕ). DetectsAt job.circuit job.tests.tests told.0 (128 * group + k)
      in
      record {
        right = λ k lt on. (h.2 (128 * group + k)).1
            (subst (λ f. DetectsAt job.circuit job.tests.tests f (128 * group + k)) same
            ((told.2 k lt).0 on));
        whole = λ k lt hit least. (told.2 k lt).1
            (subst (λ f. DetectsAt job.circuit job.tests.tests f (128 * group + k)) (sym same)
            ((h.2 (128 * group + k)).0 hit));
      }

  -- no lane tells that there is none
  pub unit_none : (word : ℕ) → word ≡ 0 → IsFirstOn job (unit_span group) class None
      → 128 * group + 512 ≤ length job.tests.tests → TellUnitHits all hits group word
  unit_none word zero none full =
      let same : none.0 ≡ h.0 = ap (λ o. unwrap_or o none.0) (sym none.1 ∙ h.1) in
      record {
        right = λ k lt on. absurd (false≢true (sym (ap (λ w. lane w k) zero ∙ lane_zero k) ∙ on));
        whole = λ k lt hit least. absurd (none.2 (128 * group + k) (record {
          from = omega arith;
          to = omega (arith, lt);
          listed = omega (arith, lt, full);
        }) (subst (λ f. DetectsAt job.circuit job.tests.tests f (128 * group + k)) (sym same)
            ((h.2 (128 * group + k)).0 hit)));
      }

  -- and so do those in which a class came to the stem and the complemented stem is seen
  pub unit_arrived : (stem word seen : ℕ) → ArrivesInUnit job group stem class word
      → ((k : ℕ) → k < 512 → lane word k ≡ true → lane seen k ≡ true
      → DetectsFlip job.circuit (test_of job.tests.tests group k) stem)
      → ((k : ℕ) → k < 512 → lane word k ≡ true → lane seen k ≡ false
      → (all ≡ true) ⊎ ((j : ℕ) → j < k → j / 128 ≡ k / 128 → lane word j ≡ true
      → lane seen j ≡ false) → ¬ DetectsFlip job.circuit (test_of job.tests.tests group k) stem)
      → TellUnitHits all hits group (bit_and word seen)
  unit_arrived stem word seen came right missed =
      let same : came.0 ≡ h.0 = ap (λ o. unwrap_or o came.0) (sym came.1 ∙ h.1) in
      record {
        right = λ k lt e.
            let on = lanes_first word seen k e in
            (h.2 (128 * group + k)).1
            (subst (λ f. DetectsAt job.circuit job.tests.tests f (128 * group + k)) same
            ((came.2 k lt).1 (on, right k lt on (lanes_second word seen k e))));
        whole = λ k lt hit least.
            let own = (came.2 k lt).0
            (subst (λ f. DetectsAt job.circuit job.tests.tests f (128 * group + k)) (sym same)
            ((h.2 (128 * group + k)).0 hit)) in
            lit k lt own.0 own.1 (least_of k least) (bit_cases (lane seen k));
      }
    where
      unseen : (j : ℕ) → lane (bit_and word seen) j ≡ false → lane word j ≡ true
          → lane seen j ≡ false
      unseen j none on = go (lane seen j) refl
        where
          go : (b : Bool) → lane seen j ≡ b → lane seen j ≡ false
          go true e = absurd (false≢true (sym none ∙ lanes_both word seen j on e))
          go false e = e

      least_of : (k : ℕ) → (all ≡ true) ⊎ ((j : ℕ) → j < k → j / 128 ≡ k / 128
          → lane (bit_and word seen) j ≡ false) → (all ≡ true) ⊎ ((j : ℕ) → j < k
          → j / 128 ≡ k / 128 → lane word j ≡ true → lane seen j ≡ false)
      least_of k (inl every) = inl every
      least_of k (inr none) = inr (λ j lt group_is on. unseen j (none j lt group_is) on)

      lit : (k : ℕ) → k < 512 → lane word k ≡ true
          → DetectsFlip job.circuit (test_of job.tests.tests group k) stem
          → (all ≡ true) ⊎ ((j : ℕ) → j < k → j / 128 ≡ k / 128 → lane word j ≡ true
          → lane seen j ≡ false)
          → (lane seen k ≡ true) ⊎ (lane seen k ≡ false) → lane (bit_and word seen) k ≡ true
      lit k lt on flip least (inl shown) = lanes_both word seen k on shown
      lit k lt on flip least (inr off) = absurd (missed k lt on off least flip)

-- what is taken by them is taken of the span
pub takes_unit : {K : Type 0} (all : Bool) (means : (ℕ → Bool) → ℕ → ℕ → K → Type 0) (job : Parts)
    (group class word : ℕ) (old new : K) → HasTakenUnit all means group word old new
    → ((hits : ℕ → Bool) → AreHits job class hits → TellUnitHits all hits group word)
    → HasTakenSpan means job (unit_span group) class old new
takes_unit all means job group class word old new taken tells hits low h le was =
    let begin : 128 * group ≡ 64 * (2 * group) = omega arith in
    let end : 128 * group + 512 ≡ 64 * (2 * group + 7) + 64 = omega arith in
    subst (λ n. means hits low n new) end (taken hits low (omega (arith, le)) (tells hits h)
    (subst (λ n. means hits low n old) (sym begin) was))
