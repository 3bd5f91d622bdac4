use Rattle.std.{proofs.Common.{◌+◌, ◌*◌, ◌∙◌, ap, subst, sym}, specs.Prelude.bit_and}
use Rattle.std.specs.Bool.{Decides}
use Rattle.fault_model.specs.{Fault.Fault, Detection.{IsInitialized, IsSecondOfPair, LooksBack}}
use Rattle.flat_circuit.{specs.Words.lane, proofs.Public.lane_ones}
use Rattle.block_sim.proofs.Pairs.{both_decide}
use Rattle.block_sim.proofs.launch_condition.launch_lanes.Goals as goal

pub returns-in-StuckAt : goal.returns-in-StuckAt
returns-in-StuckAt c = λ f k starts lt listed.
    subst (λ m. Decides (lane 340282366920938463463374607431768211455 k)
    (LooksBack c.args.job.now.circuit c.args.job.now.tests.tests m f.line
    f.stuck (128 * c.args.group + k)))
    (sym (sym (ap (λ (x : Fault). x.model) starts.is) ∙ c.in-StuckAt.is))
    (λ h. tt, λ h. lane_ones 128 k lt)

pub returns-in-Transition : goal.returns-in-Transition
returns-in-Transition c = λ f k starts lt listed.
    subst (λ m. Decides (lane c.initialized_lanes.result k)
    (LooksBack c.args.job.now.circuit c.args.job.now.tests.tests m f.line
    f.stuck (128 * c.args.group + k)))
    (sym (sym (ap (λ (x : Fault). x.model) starts.is) ∙ c.in-Transition.is))
    (c.initialized_lanes.ensures f k starts lt listed)

pub returns-in-TransitionPairs : goal.returns-in-TransitionPairs
returns-in-TransitionPairs c = λ f k starts lt listed.
    let job = c.args.job.now in
    let test = 128 * c.args.group + k in
    subst (λ m.
    Decides (lane (bit_and c.capture_lanes.result c.initialized_lanes-in-TransitionPairs.result)
    k) (LooksBack job.circuit job.tests.tests m f.line f.stuck test))
    (sym (sym (ap (λ (x : Fault). x.model) starts.is) ∙ c.in-TransitionPairs.is))
    (both_decide c.capture_lanes.result c.initialized_lanes-in-TransitionPairs.result k
    (IsSecondOfPair test) (IsInitialized job.circuit job.tests.tests f.line f.stuck test)
    (c.capture_lanes.ensures c.args.group k lt)
    (c.initialized_lanes-in-TransitionPairs.ensures f k starts lt listed))
