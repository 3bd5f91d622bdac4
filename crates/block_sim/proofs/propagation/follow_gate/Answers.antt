use Rattle.std.{proofs.Common.subst, specs.Prelude.bit_or}
use Rattle.block_sim.{specs.Moments.{Leads, moment, not_yet_taken}, proofs.SettledLanes.settled_on}
use Rattle.block_sim.proofs.Moments.{leads_narrower, leads_on}
use Rattle.block_sim.proofs.propagation.follow_gate.Goals as goal

pub returns-then-detected-found-clause-leads : goal.returns-then-detected-found-clause-leads
returns-then-detected-found-clause-leads c =
    let circuit = c.args.view.circuit.now.arranged in
    let kept = c.args.found.followed in
    let gate = c.args.gate in
    subst (λ x. Leads circuit c.args.view.good.now c.args.view.lanes
    (not_yet_taken gate (moment c.args.changes.now gate kept c.args.found.detected))
    (moment c.evaluate_waiting.new.changes gate kept x)) c.if-detected-found.true
    (c.evaluate_waiting.ensures.leads c.args.found.detected)

pub returns-clause-leads : goal.returns-clause-leads
returns-clause-leads c =
    let circuit = c.args.view.circuit.now.arranged in
    let n = c.evaluate_waiting.new.changes in
    let kept = c.args.found.followed in
    let seen = c.args.found.detected in
    leads_on circuit c.args.view.good.now c.args.view.lanes _ _ _
    (c.evaluate_waiting.ensures.leads seen)
    (leads_narrower circuit c.args.view.good.now c.args.view.lanes n.overlay n.waiting n.evaluations
    c.args.gate kept (bit_or seen c.evaluate_waiting.result) c.followed.result
    c.followed.ensures.within)

pub returns-clause-settled : goal.returns-clause-settled
returns-clause-settled c = λ h.
    settled_on c.args.extent c.args.view.lanes c.args.found.followed c.followed.result
    c.args.found.detected c.evaluate_waiting.result h c.followed.ensures.rest
