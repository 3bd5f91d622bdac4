use Rattle.std.{proofs.Common.{◌+◌, ◌*◌, ◌∙◌, ap, sym, subst}, specs.Prelude.bit_and}
use Rattle.std.specs.Bool.{Decides}
use Rattle.fault_model.specs.declared.Line.TheVariants as line
use Rattle.fault_model.specs.Detection.{IsInitialized, IsSecondOfPair, LooksBack}
use Rattle.flat_circuit.specs.Words.{lane}
use Rattle.undetected.proofs.WordLanes.{both_decide, lane_ones}
use Rattle.undetected.proofs.activating.launch_lanes.Goals as goal

pub returns-in-StuckAt : goal.returns-in-StuckAt
returns-in-StuckAt c = λ k lt listed.
    let job = c.args.job.now in
    subst (λ m. Decides (lane 18446744073709551615 k) (LooksBack job.circuit job.tests.tests m
    (line.Stem c.args.signal) c.args.bit (64 * c.args.block + k)))
    (sym (sym (c.model.ensures ∙ ap (λ l. l.model) c.faults.ensures.part) ∙ c.in-StuckAt.is))
    (λ h. tt, λ h. lane_ones 64 k lt)

pub returns-in-Transition : goal.returns-in-Transition
returns-in-Transition c = λ k lt listed.
    let job = c.args.job.now in
    subst (λ m. Decides (lane c.initialized_lanes.result k) (LooksBack job.circuit job.tests.tests m
    (line.Stem c.args.signal) c.args.bit (64 * c.args.block + k)))
    (sym (sym (c.model.ensures ∙ ap (λ l. l.model) c.faults.ensures.part) ∙ c.in-Transition.is))
    (c.initialized_lanes.ensures k lt listed)

pub returns-in-TransitionPairs : goal.returns-in-TransitionPairs
returns-in-TransitionPairs c = λ k lt listed.
    let job = c.args.job.now in
    let test = 64 * c.args.block + k in
    subst (λ m. Decides (lane (bit_and c.capture_lanes.result
    c.initialized_lanes-in-TransitionPairs.result) k) (LooksBack job.circuit job.tests.tests m
    (line.Stem c.args.signal) c.args.bit test))
    (sym (sym (c.model.ensures ∙ ap (λ l. l.model) c.faults.ensures.part)
    ∙ c.in-TransitionPairs.is))
    (both_decide c.capture_lanes.result c.initialized_lanes-in-TransitionPairs.result k
    (IsSecondOfPair test)
    (IsInitialized job.circuit job.tests.tests (line.Stem c.args.signal) c.args.bit test)
    (c.capture_lanes.ensures c.args.block k lt)
    (c.initialized_lanes-in-TransitionPairs.ensures k lt listed))
