use Rattle.std.proofs.Common.{◌≡◌, ◌+◌, ◌-◌, ◌∙◌, ap, arith, subst, suc}
use Rattle.flat_circuit.specs.Words.{IsFaultFreeWord, lane}
use Rattle.undetected.proofs.BitsBefore.{bits_before}
use Rattle.undetected.proofs.activating.word_before.Goals as goal
use Rattle.undetected.proofs.activating.word_before.Goals.{then-block-eq0, else-block-eq0}

pub returns : goal.returns
returns c = λ k t bit lt e.
    let job = c.args.job.now in
    let s = c.args.signal in
    bits_before job.circuit job.tests.tests c.args.block k t s c.word.result c.if-block-eq0.last
    c.one_lane_up.result bit c.circuit-circuit.ensures.together.circuit.well_formed
    c.requires.signal lt e c.word.ensures
    (λ j few. let one : suc j ≡ j + 1 = omega arith in ap (lane c.one_lane_up.result) one
    ∙ c.one_lane_up.ensures.later j few) c.one_lane_up.ensures.first
    (λ b before. elim c.if-block-eq0.branch [
      | then-block-eq0 w ↦ absurd (omega (arith, before, w.if-block-eq0.true))
      | else-block-eq0 w ↦
          let which : c.args.block - 1 ≡ b = omega (arith, before) in
          rw (w.last-is) (subst
          (λ x. IsFaultFreeWord job.circuit job.tests.tests x s w.word-last.result)
          which w.word-last.ensures)
    ])
