use Rattle.std.proofs.Common.{arith, sym}
use Rattle.flat_circuit.proofs.Public.{pins_few, pins_some, pins_within}
use Rattle.blocking_pins.proofs.effect.word_under.Goals as goal

pub evaluate_gate-requires-clause-some : goal.evaluate_gate-requires-clause-some
evaluate_gate-requires-clause-some c =
    pins_some c.args.view.circuit.now.arranged c.args.place c.in-Some.gate.kind
    c.in-Some.gate.pins.now c.requires.view.circuit (sym c.in-Some.ensures.gate)

pub evaluate_gate-requires-clause-pins_in : goal.evaluate_gate-requires-clause-pins_in
evaluate_gate-requires-clause-pins_in c = λ k d lt.
    let within = pins_within c.args.view.circuit.now.arranged c.args.place c.in-Some.gate.kind
    c.in-Some.gate.pins.now c.requires.view.circuit.well_formed (sym c.in-Some.ensures.gate) k d
    lt in
    omega (arith, within, c.requires.view.count)

pub evaluate_gate-requires-clause-few : goal.evaluate_gate-requires-clause-few
evaluate_gate-requires-clause-few c =
    pins_few c.args.view.circuit.now.arranged c.args.place c.in-Some.gate.kind
    c.in-Some.gate.pins.now c.requires.view.circuit (sym c.in-Some.ensures.gate)
