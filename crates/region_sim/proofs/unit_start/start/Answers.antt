use Rattle.std.proofs.Common.{◌≡◌, ◌<◌, ◌∙◌, ◌&&◌, ℕ, ap, arith, inl, inr, map, sym}
use Rattle.std.specs.Prelude.{None, Some}
use Rattle.bench_net.specs.Scan.{definition, gate_line, name_of, names, signal}
use Rattle.bench_net.proofs.Public.{name_of-signal}
use Rattle.list_lemmas.proofs.Places.{place_within}
use Rattle.fault_model.{specs.Detection.{argument, name_on}, proofs.Public.carries}
use Rattle.wide_words.specs.Wide.{number}
use Rattle.block_sim.specs.Flips.{start_of}
use Rattle.flat_circuit.specs.{Stuck.stuck_fault, Words.lane, SlotWords.copied_bit}
use Rattle.flat_circuit.proofs.Public.{gate_within, pin_of, lane_and, lane_xor, unlike}
use Rattle.region_sim.proofs.UnitStarts.{at_signal, observer_comes, pin_comes, stem_comes}
use Rattle.region_sim.proofs.unit_start.start.Goals.{After-and-excited}
use Rattle.region_sim.proofs.unit_start.start.Goals as goal

pub of-requires : goal.of-requires
of-requires g c = λ slot low.
    let circuit = c.args.circuit.now.arranged in
    let fault = stuck_fault c.args.origin.fault in
    let n = carries c.args.origin.fault.model circuit fault c.requires.circuit.well_formed
    c.requires.listed in
    let is : c.args.origin.carried ≡ signal circuit n.0 = c.requires.carried n.0 n.1 in
    let lt = place_within (names circuit) _ n.0 (name_of-signal circuit n.0 n.2) in
    let many = c.requires.view slot low in
    omega (arith, lt, is, many)

-- the lanes in which the line has the other bit
lanes_are : (g : _) (c : After-and-excited g) → (k : ℕ) → k < 512
    → lane (number c.and-excited.result) k
    ≡ (unlike (copied_bit g.C.Copies.layout (g.C.Copies.rows c.args.copies) k c.args.origin.carried)
    c.args.origin.fault.at_one && lane (number c.args.lanes) k)
lanes_are g c k lt = ap (λ w. lane w k) c.and-excited.ensures
    ∙ (lane_and (number c.xor.result) (number c.args.lanes) k
    ∙ ap (λ b. b && lane (number c.args.lanes) k) (ap (λ w. lane w k) c.xor.ensures
    ∙ (lane_xor (number c.of.result) (number c.in_each_wide_lane-stuck.result) k
    ∙ (ap (λ b. unlike b (lane (number c.in_each_wide_lane-stuck.result) k)) (c.of.ensures k lt)
    ∙ ap (unlike (copied_bit g.C.Copies.layout (g.C.Copies.rows c.args.copies) k
    c.args.origin.carried)) (c.in_each_wide_lane-stuck.ensures k lt)))))

pub pass-lanes-requires-clause-within : goal.pass-lanes-requires-clause-within
pass-lanes-requires-clause-within g c =
    let circuit = c.args.circuit.now.arranged in
    let fault = stuck_fault c.args.origin.fault in
    let n = carries c.args.origin.fault.model circuit fault c.requires.circuit.well_formed
    c.requires.listed in
    let reads : argument (definition circuit c.in-Pin.gate) c.in-Pin.pin ≡ Some n.0 =
    ap (name_on circuit) (sym c.in-Pin.is) ∙ n.1 in
    gate_within circuit c.in-Pin.gate c.in-Pin.pin n.0 reads

pub pass-lanes-requires-clause-driven : goal.pass-lanes-requires-clause-driven
pass-lanes-requires-clause-driven g c =
    let circuit = c.args.circuit.now.arranged in
    let fault = stuck_fault c.args.origin.fault in
    let n = carries c.args.origin.fault.model circuit fault c.requires.circuit.well_formed
    c.requires.listed in
    let reads : argument (definition circuit c.in-Pin.gate) c.in-Pin.pin ≡ Some n.0 =
    ap (name_on circuit) (sym c.in-Pin.is) ∙ n.1 in
    let p = pin_of circuit c.in-Pin.gate c.in-Pin.pin n.0 reads in
    ((p.kind, map (signal circuit) p.args), ap (gate_line circuit) p.is)

pub returns-in-Stem-clause-reached : goal.returns-in-Stem-clause-reached
returns-in-Stem-clause-reached g c = λ tests group rows.
    let circuit = c.args.circuit.now.arranged in
    let fault = stuck_fault c.args.origin.fault in
    let n = carries c.args.origin.fault.model circuit fault c.requires.circuit.well_formed
    c.requires.listed in
    let is : c.args.origin.carried ≡ signal circuit n.0 = c.requires.carried n.0 n.1 in
    let named : name_of circuit c.in-Stem.signal ≡ Some n.0 =
    ap (name_on circuit) (sym c.in-Stem.is) ∙ n.1 in
    stem_comes circuit c.requires.circuit.well_formed tests g.C.Copies.layout g.C.Copies.sized group
    (g.C.Copies.rows c.args.copies) rows fault n.0 n.1 c.args.origin.carried is
    (number c.and-excited.result) (number c.args.lanes)
    (lanes_are g (goal.at.returns-in-Stem-clause-reached g c).After-and-excited) c.in-Stem.signal
    named c.in-Stem.is

pub returns-in-Pin-clause-reached : goal.returns-in-Pin-clause-reached
returns-in-Pin-clause-reached g c = λ tests group rows.
    let circuit = c.args.circuit.now.arranged in
    let fault = stuck_fault c.args.origin.fault in
    let n = carries c.args.origin.fault.model circuit fault c.requires.circuit.well_formed
    c.requires.listed in
    let is : c.args.origin.carried ≡ signal circuit n.0 = c.requires.carried n.0 n.1 in
    pin_comes circuit c.requires.circuit.well_formed tests g.C.Copies.layout g.C.Copies.sized group
    (g.C.Copies.rows c.args.copies) rows fault n.0 n.1 c.args.origin.carried is
    (number c.and-excited.result) (number c.args.lanes)
    (lanes_are g (goal.at.returns-in-Pin-clause-reached g c).After-and-excited)
    c.args.origin.fault.model c.requires.listed c.in-Pin.gate c.in-Pin.pin c.in-Pin.is
    (number c.pass-lanes.result) c.pass-lanes.ensures.inside c.pass-lanes.ensures.changed

pub returns-in-Data-clause-reached : goal.returns-in-Data-clause-reached
returns-in-Data-clause-reached g c = λ tests group rows k lt.
    let circuit = c.args.circuit.now.arranged in
    let fault = stuck_fault c.args.origin.fault in
    let n = carries c.args.origin.fault.model circuit fault c.requires.circuit.well_formed
    c.requires.listed in
    let is : c.args.origin.carried ≡ signal circuit n.0 = c.requires.carried n.0 n.1 in
    let detection = λ (none : start_of fault.line ≡ None).
    observer_comes circuit c.requires.circuit.well_formed tests g.C.Copies.layout g.C.Copies.sized
    group (g.C.Copies.rows c.args.copies) rows fault n.0 n.1 c.args.origin.carried is
    (number c.and-excited.result) (number c.args.lanes)
    (lanes_are g (goal.at.returns-in-Data-clause-reached g c).After-and-excited)
    c.args.origin.fault.model c.requires.listed none k lt in
    elim c.in-Data.is [
      | inl x ↦ detection (ap start_of x.1)
      | inr x ↦ detection (ap start_of x.1)
    ]

pub returns-in-Stem-clause-signal : goal.returns-in-Stem-clause-signal
returns-in-Stem-clause-signal g c = λ at e.
    let circuit = c.args.circuit.now.arranged in
    let fault = stuck_fault c.args.origin.fault in
    let n = carries c.args.origin.fault.model circuit fault c.requires.circuit.well_formed
    c.requires.listed in
    let lt = place_within (names circuit) c.in-Stem.signal n.0 (ap (name_on circuit)
    (sym c.in-Stem.is) ∙ n.1) in
    let same : c.in-Stem.signal ≡ at.signal = at_signal _ at e in
    omega (arith, lt, same)

pub returns-in-Pin-clause-signal : goal.returns-in-Pin-clause-signal
returns-in-Pin-clause-signal g c = λ at e.
    let circuit = c.args.circuit.now.arranged in
    let fault = stuck_fault c.args.origin.fault in
    let n = carries c.args.origin.fault.model circuit fault c.requires.circuit.well_formed
    c.requires.listed in
    let reads : argument (definition circuit c.in-Pin.gate) c.in-Pin.pin ≡ Some n.0 =
    ap (name_on circuit) (sym c.in-Pin.is) ∙ n.1 in
    let low = gate_within circuit c.in-Pin.gate c.in-Pin.pin n.0 reads in
    let same : c.in-Pin.gate ≡ at.signal = at_signal _ at e in
    omega (arith, low, same)
