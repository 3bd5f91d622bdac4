-- The hits of a class among the tests of a span, as the lanes of a word tell them.
use Rattle.std.proofs.Common.{◌≡◌, ◌<◌, ◌+◌, ◌*◌, ◌⊎◌, inl, inr, ℕ, Bool, true, false, refl, sym}
use Rattle.std.{proofs.Common.{◌∙◌, ap, subst, List, [], arith}, specs.Bool.Decides}
use Rattle.std.{specs.Prelude.{◌↔◌, bit_and, length, unwrap_or}, proofs.lemmas.Bool.false≢true}
use Rattle.list_lemmas.proofs.Places.{place_within, within_place}
use Rattle.fault_model.specs.{Detection.DetectsAt, Fault.Fault, Solution.{Detects, Test}}
use Rattle.bench_net.specs.Statement.{Statement}
use Rattle.flat_circuit.specs.{BlockSpans.{IsInSpan, IsSpan, group_of}, Words.{lane, test_of}}
use Rattle.flat_circuit.{specs.declared.block_span.BlockSpan.BlockSpan, proofs.Public.index_of}
use Rattle.block_sim.specs.{Flips.{AreLanesFor, DetectsFlip}, Parts.Parts}
use Rattle.block_sim.proofs.Public.{lanes_both, lanes_first, lanes_second}
use Rattle.region_sim.{specs.Arrivals.{AreSpanLanes, HasArrived}, proofs.OneLane.bit_cases}
use Rattle.region_sim.specs.Goals.{AreHits, HasTaken, HasTakenSpan, TellHits}

-- a word that decides in which of its lanes a fault is detected has the lanes of the tests that
-- detect it
pub lanes_exact : (c : List Statement) (tests : List Test) (span : BlockSpan) (f : Fault)
    (lanes word : ℕ) → AreLanesFor tests span c f lanes → ((k : ℕ) → k < 128 → Decides (lane word k)
    ((lane lanes k ≡ true) × Detects c (test_of tests (group_of span) k) f))
    → (k : ℕ) → k < 128 → Decides (lane word k)
    (IsInSpan (length tests) span (128 * group_of span + k)
    × DetectsAt c tests f (128 * group_of span + k))
lanes_exact c tests span f lanes word decides is k lt = (
  λ e.
      let h = (is k lt).0 e in
      let d = (decides k lt).0 h.0 in
      let at = within_place tests (128 * group_of span + k) d.0.listed in
      let same : test_of tests (group_of span) k ≡ at.0 =
      index_of tests (128 * group_of span + k) at.0 [] at.1 in
      (d.0, (at.0, at.1, subst (λ t. Detects c t f) same h.1, d.1)),
  λ h.
      let d = h.1 in
      let same : test_of tests (group_of span) k ≡ d.0 =
      index_of tests (128 * group_of span + k) d.0 [] d.1 in
      (is k lt).1 ((decides k lt).1 (h.0, d.3), subst (λ t. Detects c t f) (sym same) d.2),
)

-- a class that came to a stem is detected where the complemented stem is
module _ (job : Parts) (span : BlockSpan) (stem class word : ℕ)
    (a : HasArrived job span stem class word) (k : ℕ) (lt : k < 128) where
  abbrev Flip : Type 0
  Flip = DetectsFlip job.circuit (test_of job.tests.tests (group_of span) k) stem

  abbrev Hit : Type 0
  Hit = IsInSpan (length job.tests.tests) span (128 * group_of span + k)
      × DetectsAt job.circuit job.tests.tests a.0 (128 * group_of span + k)

  pub arrives : Hit ↔ ((lane word k ≡ true) × Flip)
  arrives = (there, back)
    where
      there : Hit → (lane word k ≡ true) × Flip
      there h =
          let d = h.1 in
          let same : test_of job.tests.tests (group_of span) k ≡ d.0 =
          index_of job.tests.tests (128 * group_of span + k) d.0 [] d.1 in
          let on = (a.4 k lt).1 (h.0, d.3) in
          let come = (a.5 k lt on).0 (subst (λ t. Detects job.circuit t a.0) (sym same) d.2) in (
            subst (λ x. lane x k ≡ true) (sym a.6) (lanes_both a.1 a.2 k on come.0),
            come.1,
          )

      back : (lane word k ≡ true) × Flip → Hit
      back p =
          let own = subst (λ x. lane x k ≡ true) a.6 p.0 in
          let in_lanes = lanes_first a.1 a.2 k own in
          let detects = (a.5 k lt in_lanes).1 (lanes_second a.1 a.2 k own, p.1) in
          let d = (a.4 k lt).0 in_lanes in
          let at = within_place job.tests.tests (128 * group_of span + k) d.0.listed in
          let same : test_of job.tests.tests (group_of span) k ≡ at.0 =
          index_of job.tests.tests (128 * group_of span + k) at.0 [] at.1 in
          (d.0, (at.0, at.1, subst (λ t. Detects job.circuit t a.0) same detects, d.1))

-- ---- the hits of a class
module _ (job : Parts) (span : BlockSpan) (class : ℕ) (is : IsSpan (length job.tests.tests) span)
    (all : Bool) (hits : ℕ → Bool) (h : AreHits job class hits) where
  abbrev Tells : ℕ → Type 0
  Tells word = TellHits all hits (128 * group_of span) (64 * span.first) (64 * span.last + 64) word

  abbrev IsHitIn : Fault → ℕ → Type 0
  IsHitIn r k = IsInSpan (length job.tests.tests) span (128 * group_of span + k)
      × DetectsAt job.circuit job.tests.tests r (128 * group_of span + k)

  -- it tells them, if its lanes are right
  pub tells_span : (r : Fault) (word : ℕ) → r ≡ h.0
      → ((k : ℕ) → k < 128 → lane word k ≡ true → IsHitIn r k)
      → ((k : ℕ) → k < 128 → IsHitIn r k → lane word k ≡ false
      → (all ≡ true) ⊎ ((j : ℕ) → j < k → lane word j ≡ false) → ⊥) → Tells word
  tells_span r word same right none = record {
    low = omega arith;
    ordered = (let up = is.ordered in omega (arith, up));
    high = (let one = is.one_group in omega (arith, one));
    right = λ k lt on.
        let r_hit = right k lt on in
        let from = r_hit.0.from in
        let to = r_hit.0.to in (
          omega (arith, from),
          omega (arith, to),
          (h.2 (128 * group_of span + k)).1
              (subst (λ f. DetectsAt job.circuit job.tests.tests f (128 * group_of span + k)) same
              r_hit.1),
        );
    whole = λ k from to hit least.
        let one = is.one_group in
        let lt : k < 128 = omega (arith, to, one) in
        let d = subst (λ f. DetectsAt job.circuit job.tests.tests f (128 * group_of span + k))
        (sym same) ((h.2 (128 * group_of span + k)).0 hit) in
        lit k lt (
          record {
            from = omega (arith, from);
            to = omega (arith, to);
            listed = place_within job.tests.tests (128 * group_of span + k) d.0 d.1;
          },
          d,
        ) least (bit_cases (lane word k));
  }
    where
      lit : (k : ℕ) → k < 128 → IsHitIn r k → (all ≡ true) ⊎ ((j : ℕ) → j < k → lane word j ≡ false)
          → (lane word k ≡ true) ⊎ (lane word k ≡ false) → lane word k ≡ true
      lit k lt own least (inl on) = on
      lit k lt own least (inr off) = absurd (none k lt own off least)

  -- lanes that are known tell them
  pub tells_known : (word : ℕ) → AreSpanLanes job span class word → Tells word
  tells_known word known =
      let same : known.0 ≡ h.0 = ap (λ o. unwrap_or o known.0) (sym known.1 ∙ h.1) in
      tells_span known.0 word same (λ k lt on. (known.2 k lt).0 on)
      (λ k lt own off least. false≢true (sym off ∙ (known.2 k lt).1 own))

  -- and so do those in which a class came to the stem and the complemented stem is seen
  pub tells_arrived : (stem word seen : ℕ) → HasArrived job span stem class word
      → ((k : ℕ) → k < 128 → lane word k ≡ true → lane seen k ≡ true
      → DetectsFlip job.circuit (test_of job.tests.tests (group_of span) k) stem)
      → ((k : ℕ) → k < 128 → lane word k ≡ true → lane seen k ≡ false
      → (all ≡ true) ⊎ ((j : ℕ) → j < k → lane word j ≡ true → lane seen j ≡ false)
      → ¬ DetectsFlip job.circuit (test_of job.tests.tests (group_of span) k) stem)
      → Tells (bit_and word seen)
  tells_arrived stem word seen a right missed =
      let same : a.0 ≡ h.0 = ap (λ o. unwrap_or o a.0) (sym a.3 ∙ h.1) in
      tells_span a.0 (bit_and word seen) same (λ k lt on.
      let came = lanes_first word seen k on in
      (arrives job span stem class word a k lt).1
      (came, right k lt came (lanes_second word seen k on))) (λ k lt own off least.
      let there = (arrives job span stem class word a k lt).0 own in
      missed k lt there.0 (unseen k off there.0) (least_of k least) there.1)
    where
      unseen : (j : ℕ) → lane (bit_and word seen) j ≡ false → lane word j ≡ true
          → lane seen j ≡ false
      unseen j none on = go (lane seen j) refl
        where
          go : (b : Bool) → lane seen j ≡ b → lane seen j ≡ false
          go true e = absurd (false≢true (sym none ∙ lanes_both word seen j on e))
          go false e = e

      least_of : (k : ℕ) → (all ≡ true) ⊎ ((j : ℕ) → j < k → lane (bit_and word seen) j ≡ false)
          → (all ≡ true) ⊎ ((j : ℕ) → j < k → lane word j ≡ true → lane seen j ≡ false)
      least_of k (inl every) = inl every
      least_of k (inr none) = inr (λ j lt on. unseen j (none j lt) on)

-- a word that tells them is taken
pub takes_span : {K : Type 0} (all : Bool) (means : (ℕ → Bool) → ℕ → ℕ → K → Type 0) (job : Parts)
    (span : BlockSpan) (class word : ℕ) (old new : K)
    → HasTaken all means (group_of span) word old new → ((hits : ℕ → Bool) → AreHits job class hits
    → TellHits all hits (128 * group_of span) (64 * span.first) (64 * span.last + 64) word)
    → HasTakenSpan means job span class old new
takes_span all means job span class word old new taken tells hits low h le was =
    taken hits low (64 * span.first) (64 * span.last + 64) le (tells hits h) was
