use Rattle.std.proofs.Common.{◌≡◌, ◌∙◌, List, ap, arith, sym, ℕ}
use Rattle.std.specs.Prelude.{Option, unwrap_or}
use Rattle.bench_net.specs.declared.Kind.{Kind}
use Rattle.fault_model.specs.Solution.{value}
use Rattle.wide_words.specs.Wide.{number}
use Rattle.flat_circuit.specs.{GateForms.inverted_if, Words.lane, SlotWords.copied_bit}
use Rattle.flat_circuit.proofs.Public.{pins_within, lane_xor, unlike, only_lanes}
use Rattle.region_sim.{specs.Units.turned_bits, proofs.UnitLanes.passed_to}
use Rattle.region_sim.proofs.unit_gate.pass.Goals as goal

pub gate_turned-word-requires-clause-pins : goal.gate_turned-word-requires-clause-pins
gate_turned-word-requires-clause-pins g c = λ k d lt slot low.
    let within = pins_within c.args.circuit.now.arranged c.args.gate c.in-Some.driver.kind
    c.in-Some.driver.pins.now c.requires.circuit.well_formed (sym c.in-Some.ensures.gate) k d lt in
    let many = c.requires.view slot low in
    omega (arith, within, many)

pub of-requires : goal.of-requires
of-requires g c = λ slot low.
    let many = c.requires.view slot low in omega (arith, many, c.requires.within)

pub returns-clause-inside : goal.returns-clause-inside
returns-clause-inside g c = λ k e. only_lanes (number c.xor.result) (number c.args.lanes) k
    (ap (λ n. lane n k) (sym c.and.ensures) ∙ e)

pub returns-clause-changed : goal.returns-clause-changed
returns-clause-changed g c = λ kind pins k is lt on.
    let own = c.in-Some.driver in
    let rows = g.C.Copies.rows c.args.copies in
    let layout = g.C.Copies.layout in
    let bit = copied_bit layout rows k c.args.gate in
    let same : (own.kind, own.pins.now) ≡ (kind, pins) =
    ap (λ (o : Option (Kind × List ℕ)). unwrap_or o (kind, pins)) (c.in-Some.ensures.gate ∙ is) in
    ap (λ n. inverted_if (lane n k) bit) c.and.ensures
    ∙ (passed_to (number c.xor.result) (number c.args.lanes) k on
    (lane (number c.gate_turned-word.result) k) bit (ap (λ n. lane n k) c.xor.ensures
    ∙ (lane_xor (number c.gate_turned-word.result) (number c.of.result) k
    ∙ ap (λ b. unlike (lane (number c.gate_turned-word.result) k) b) (c.of.ensures k lt)))
    ∙ (c.gate_turned-word.ensures k lt
    ∙ ap (λ p. value p.0 (turned_bits layout rows c.args.turned (number c.args.lanes) p.1 k)) same))
