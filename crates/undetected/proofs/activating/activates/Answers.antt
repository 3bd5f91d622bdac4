use Rattle.std.proofs.Common.{◌≡◌, ◌<◌, ◌+◌, ◌*◌, ◌-◌, ◌^◌, ◌∙◌, ℕ, ap, arith, length, min, not}
use Rattle.std.{proofs.Common.{subst, sym}, specs.Prelude.{[], bit_and, slice_index_or}}
use Rattle.std.{specs.Bool.Decides, proofs.lemmas.Bool.{false≢true, lt-ltb, ltb-true}}
use Rattle.std.proofs.lemmas.{Nat.and_le_l, Option.get_or_from_slice_get}
use Rattle.fault_model.specs.declared.Line.TheVariants as line
use Rattle.fault_model.specs.Detection.{HasBit, LooksBack}
use Rattle.list_lemmas.proofs.Places.{place_within}
use Rattle.undetected.specs.{Activation.ActivatesAt, Activated.stem_fault}
use Rattle.undetected.proofs.BitsBefore.{activating_lane, word_bit}
use Rattle.undetected.proofs.WordLanes.{both_decide, lane_below, no_lane, some_lane}
use Rattle.flat_circuit.specs.Words.{lane}
use Rattle.undetected.proofs.activating.activates.Goals as goal

pub returns-then-opposite-eq0 : goal.returns-then-opposite-eq0
returns-then-opposite-eq0 c =
    let job = c.args.job.now in
    let block = c.args.block in
    let s = c.args.signal in
    let turned = not c.args.bit in
    let carries = λ (t : ℕ). HasBit job.circuit (slice_index_or job.tests.tests t []) (line.Stem s)
    turned in
    let decides : (k : ℕ) → k < 64
    → Decides (lane c.lanes_with-opposite.result k) (carries (64 * block + k)) = λ k few.
    let own = c.lanes_with-opposite.ensures k few in
    let bits = word_bit job.circuit job.tests.tests block s c.word.result k turned
    c.circuit-circuit.ensures.together.circuit.well_formed c.requires.signal c.word.ensures few in
    (λ e. bits.0 (own.0 e), λ h. own.1 (bits.1 h)) in (
      λ h. absurd (false≢true h),
      λ h. absurd (no_lane carries block c.lanes_with-opposite.result 64 decides
          c.if-opposite-eq0.true h.0 h.1 (omega (arith, h.2))
          (subst (λ x. HasBit job.circuit x (line.Stem s) turned)
          (sym (get_or_from_slice_get job.tests.tests h.0 h.3.0 [] h.3.1)) h.3.2)),
    )

pub returns : goal.returns
returns c =
    let job = c.args.job.now in
    let m = job.list.model in
    let block = c.args.block in
    let s = c.args.signal in
    let bit = c.args.bit in
    let word = c.word.result in
    let opposite = c.lanes_with-opposite.result in
    let launch = c.launch_lanes.result in
    let lanes = bit_and opposite launch in
    let size = c.size_of.result in
    let is : size ≡ min 64 (length job.tests.tests - 64 * block) =
    c.size_of.ensures ∙ ap (λ t. min 64 (length t.tests - 64 * block)) c.tests.ensures.part in
    let f = stem_fault m s bit in
    let decides : (k : ℕ) → k < size
    → Decides (lane lanes k) (ActivatesAt job.circuit job.tests.tests f (64 * block + k)) = λ k lt.
    let few : k < 64 = omega (arith, lt, is) in
    let listed : 64 * block + k < length job.tests.tests = omega (arith, lt, is) in
    let own = c.lanes_with-opposite.ensures k few in
    let bits = word_bit job.circuit job.tests.tests block s word k (not bit)
    c.circuit-circuit.ensures.together.circuit.well_formed c.requires.signal c.word.ensures few in
    activating_lane job.circuit job.tests.tests f block k lanes listed
    (both_decide opposite launch k
    (HasBit job.circuit (slice_index_or job.tests.tests (64 * block + k) []) (line.Stem s)
    (not bit)) (LooksBack job.circuit job.tests.tests m (line.Stem s) bit (64 * block + k))
    (λ e. bits.0 (own.0 e), λ h. own.1 (bits.1 h)) (c.launch_lanes.ensures k few listed)) in
    let within : lanes < 2 ^ 64 = omega (arith, and_le_l opposite launch) in (
      λ h. let p = some_lane (ActivatesAt job.circuit job.tests.tests f) block lanes size within
          decides (omega (arith, is)) (ltb-true _ _ h) in
          (p.0, p.1, omega (arith, p.2, is), p.3),
      λ h. let listed = place_within job.tests.tests h.0 h.3.0 h.3.1 in
          lt-ltb _ _ (lane_below (ActivatesAt job.circuit job.tests.tests f) block lanes size
          within decides h.0 h.1 (omega (arith, h.2, listed, is)) h.3),
    )
