use Rattle.std.proofs.Common.{◌≤◌, ◌+◌, ◌*◌, ◌∙◌, ℕ, List, [], refl, sym, ap, arith, length}
use Rattle.std.specs.Prelude.{None}
use Rattle.bench_net.specs.Scan.{names}
use Rattle.fault_model.specs.Solution.{value}
use Rattle.wide_words.specs.Layouts.{one_of}
use Rattle.flat_circuit.proofs.Equations.{gate_equation, pins_within, pins_some, source_equation}
use Rattle.flat_circuit.proofs.{FourWords.{slot_bits, slot_lane, of_four}, GateLanes.plain_pins}
use Rattle.flat_circuit.proofs.four_words.wide_signal_word.Goals as goal

pub wide_gate_word-requires-clause-some : goal.wide_gate_word-requires-clause-some
wide_gate_word-requires-clause-some c =
    pins_some c.args.circuit.now.arranged c.args.signal c.in-Some.gate.kind c.in-Some.gate.pins.now
    c.requires.circuit (sym c.in-Some.ensures.gate)

pub wide_gate_word-requires-clause-pins_in : goal.wide_gate_word-requires-clause-pins_in
wide_gate_word-requires-clause-pins_in c = λ k d lt slot low.
    let circuit = c.args.circuit.now.arranged in
    let rows = c.args.rows in
    let P : ℕ → List ℕ → Type 0 = λ slot row. length (names circuit) ≤ length row in
    let within = pins_within circuit c.args.signal c.in-Some.gate.kind
    c.in-Some.gate.pins.now c.requires.circuit.well_formed (sym c.in-Some.ensures.gate) k d lt in
    let room = of_four P rows.first.now rows.second.now rows.third.now rows.fourth.now
    c.requires.first c.requires.second c.requires.third c.requires.fourth slot low in
    omega (arith, within, room)

pub returns-in-Some : goal.returns-in-Some
returns-in-Some c = λ slot word low same.
    let rows = c.args.rows in
    let good : ℕ → List ℕ =
    λ n. one_of rows.first.now rows.second.now rows.third.now rows.fourth.now n in
    let kind = c.in-Some.gate.kind in
    let pins = c.in-Some.gate.pins.now in
    gate_equation c.args.circuit.now.arranged c.args.tests.now.tests (c.args.group + slot) None
    (good slot) c.args.signal word word c.requires.circuit.well_formed (λ j lt. refl) kind pins
    [] (λ t. refl) (sym c.in-Some.ensures.gate) (λ j lt. same j lt
    ∙ (c.wide_gate_word.ensures (128 * slot + j) (omega (arith, low, lt))
    ∙ ap (value kind) (slot_bits good pins slot j lt
    ∙ plain_pins c.args.signal pins (good slot) j)))

pub returns-in-None : goal.returns-in-None
returns-in-None c = λ slot word low same.
    let rows = c.args.rows in
    let words = c.source_words-words.result in
    let taken = one_of words.first words.second words.third words.fourth in
    source_equation c.args.circuit.now.arranged c.args.tests.now.tests (c.args.group + slot) None
    (one_of rows.first.now rows.second.now rows.third.now rows.fourth.now slot)
    c.args.signal (taken slot) word c.requires.circuit.well_formed (λ j lt. same j lt
    ∙ (c.side_by_side.ensures (128 * slot + j) (omega (arith, low, lt))
    ∙ slot_lane taken slot j lt))
    (sym c.in-None.ensures.gate) (λ i at. c.source_words-words.ensures slot i low at)
