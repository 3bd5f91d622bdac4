use Rattle.std.proofs.Common.{◌≡◌, ◌≢◌, ◌+◌, ◌*◌, ℕ, arith, suc}
use Rattle.std.specs.Prelude.{◌↔◌, [], slice_index_or}
use Rattle.fault_model.specs.declared.Line.TheVariants as line
use Rattle.fault_model.specs.Detection.{HasBit}
use Rattle.flat_circuit.specs.Words.{lane}
use Rattle.undetected.proofs.BitsBefore.{fits_back_first, fits_back_later}
use Rattle.undetected.proofs.activating.initialized_lanes.Goals as goal
use Rattle.undetected.proofs.activating.initialized_lanes.Goals.{then-block-eq0, else-block-eq0}

pub returns : goal.returns
returns c = λ k lt listed.
    let job = c.args.job.now in
    let before = c.word_before.result in
    let bits : (t : ℕ) → suc t ≡ 64 * c.args.block + k
    → (lane before k ≡ c.args.bit) ↔ HasBit job.circuit
    (slice_index_or job.tests.tests t []) (line.Stem c.args.signal) c.args.bit
    = λ t e. c.word_before.ensures k t c.args.bit lt e in
    let fit = c.lanes_with-fits.ensures k lt in
    elim c.if-block-eq0.branch [
      | then-block-eq0 w ↦
          rw (w.earlier-is) (fits_back_first job.circuit job.tests.tests c.args.block k before
          c.lanes_with-fits.result (line.Stem c.args.signal) c.args.bit lt listed bits fit
          w.if-block-eq0.true)
      | else-block-eq0 w ↦
          let some : c.args.block ≢ 0 = w.if-block-eq0.false in
          rw (w.earlier-is) (fits_back_later job.circuit job.tests.tests c.args.block k before
          c.lanes_with-fits.result (line.Stem c.args.signal) c.args.bit lt listed bits fit
          (omega (arith, some)))
    ]
