use Rattle.std.{proofs.Common.{◌∙◌, [], refl, sym, ap, arith}, specs.Prelude.None}
use Rattle.fault_model.specs.Solution.{value}
use Rattle.flat_circuit.proofs.Equations.{gate_equation, pins_within, pins_some, source_equation}
use Rattle.flat_circuit.proofs.GateLanes.{plain_pins}
use Rattle.flat_circuit.proofs.words.signal_word.Goals as goal

pub gate_word-requires-clause-pins_in : goal.gate_word-requires-clause-pins_in
gate_word-requires-clause-pins_in c = λ k d lt.
    let within = pins_within c.args.circuit.now.arranged c.args.signal c.in-Some.gate.kind
    c.in-Some.gate.pins.now c.requires.circuit.well_formed (sym c.in-Some.ensures.gate) k d lt in
    omega (arith, within, c.requires.words)

pub gate_word-requires-clause-some : goal.gate_word-requires-clause-some
gate_word-requires-clause-some c =
    pins_some c.args.circuit.now.arranged c.args.signal c.in-Some.gate.kind c.in-Some.gate.pins.now
    c.requires.circuit (sym c.in-Some.ensures.gate)

pub returns-in-Some : goal.returns-in-Some
returns-in-Some c =
    gate_equation c.args.circuit.now.arranged c.args.tests.now.tests c.args.group None
    c.args.words.now c.args.signal c.gate_word.result c.gate_word.result
    c.requires.circuit.well_formed (λ k lt. refl) c.in-Some.gate.kind c.in-Some.gate.pins.now
    [] (λ t. refl) (sym c.in-Some.ensures.gate)
    (λ k lt. c.gate_word.ensures k lt ∙ ap (value c.in-Some.gate.kind)
    (plain_pins c.args.signal c.in-Some.gate.pins.now c.args.words.now k))

pub returns-in-None : goal.returns-in-None
returns-in-None c =
    source_equation c.args.circuit.now.arranged c.args.tests.now.tests c.args.group None
    c.args.words.now c.args.signal c.source_word.result c.source_word.result
    c.requires.circuit.well_formed (λ k lt. refl) (sym c.in-None.ensures.gate) c.source_word.ensures
