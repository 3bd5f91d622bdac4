use Rattle.std.proofs.Common.{◌≡◌, ℕ, ap, arith, List, sym, ◌∙◌}
use Rattle.std.specs.Prelude.{Option, Some, slice_index_or, unwrap_or}
use Rattle.bench_net.specs.declared.Kind.{Kind}
use Rattle.fault_model.specs.Solution.{value}
use Rattle.flat_circuit.specs.{Stuck.stuck_fault, Words.pin_bits}
use Rattle.flat_circuit.proofs.Public.{pins_within, pins_few, pins_some, only_lanes, changed_to}
use Rattle.block_sim.proofs.fault_site.gate_change.Goals as goal

pub evaluate_stuck-word-requires-clause-pins_in : goal.evaluate_stuck-word-requires-clause-pins_in
evaluate_stuck-word-requires-clause-pins_in c = λ k d lt.
    let within = pins_within c.args.view.circuit.now.arranged c.args.gate c.in-Some.driver.kind
    c.in-Some.driver.pins.now c.requires.view.circuit.well_formed (sym c.in-Some.ensures.gate) k d
    lt in
    omega (arith, within, c.requires.view.count)

pub evaluate_stuck-word-requires-clause-some : goal.evaluate_stuck-word-requires-clause-some
evaluate_stuck-word-requires-clause-some c =
    pins_some c.args.view.circuit.now.arranged c.args.gate c.in-Some.driver.kind
    c.in-Some.driver.pins.now c.requires.view.circuit (sym c.in-Some.ensures.gate)

pub evaluate_stuck-word-requires-clause-few : goal.evaluate_stuck-word-requires-clause-few
evaluate_stuck-word-requires-clause-few c =
    pins_few c.args.view.circuit.now.arranged c.args.gate c.in-Some.driver.kind
    c.in-Some.driver.pins.now c.requires.view.circuit (sym c.in-Some.ensures.gate)

pub returns-clause-inside : goal.returns-clause-inside
returns-clause-inside c = λ k lt e. only_lanes _ c.args.view.lanes k e

pub returns-clause-changed : goal.returns-clause-changed
returns-clause-changed c = λ kind pins k is lt in_lanes.
    let own = c.in-Some.driver in
    let same : (own.kind, own.pins.now) ≡ (kind, pins) =
    ap (λ (o : Option (Kind × List ℕ)). unwrap_or o (kind, pins)) (c.in-Some.ensures.gate ∙ is) in
    let fault = Some (stuck_fault c.args.fault) in
    changed_to c.evaluate_stuck-word.result (slice_index_or c.args.view.good.now c.args.gate 0)
    c.args.view.lanes k in_lanes ∙ (c.evaluate_stuck-word.ensures.value k lt
    ∙ (ap (λ d. value own.kind (pin_bits fault c.args.gate own.pins.now c.args.view.good.now d k))
    c.words-delta.ensures ∙ ap (λ p. value p.0 (pin_bits fault c.args.gate p.1 c.args.view.good.now
    c.args.changes.now.overlay k)) same))
