use Rattle.std.{proofs.Common.{◌∙◌, [], ap, inr, sym}, specs.Prelude.Some}
use Rattle.event_queue.proofs.Public.{index_zero}
use Rattle.fault_model.specs.Solution.{value}
use Rattle.flat_circuit.specs.{Stuck.stuck_fault, Words.pin_bits}
use Rattle.flat_circuit.proofs.GateLanes.{chosen_lane, clear_pins}
use Rattle.flat_circuit.proofs.words.evaluate_stuck.Goals as goal

pub returns-clause-value : goal.returns-clause-value
returns-clause-value c = λ k lt.
    let f = stuck_fault c.args.fault in
    let pins = c.args.gate.pins.now in
    chosen_lane c.args.gate.kind c.args.gate.form
    (pin_bits (Some f) c.args.signal pins c.args.words.now [] k)
    c.all_with_stuck-word.result c.in_each_lane.result k
    c.requires.form (c.in_each_lane.ensures k lt) (inr (
      c.if-gate.false,
      c.all_with_stuck-word.ensures f c.args.signal k lt c.requires.line (c.word.ensures k lt),
    )) ∙ ap (value c.args.gate.kind)
    (sym (clear_pins (Some f) c.args.signal pins c.args.words.now c.args.delta.now k
    (λ s. index_zero c.args.delta.now s c.requires.clear)))
