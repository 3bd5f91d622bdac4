use Rattle.std.proofs.Common.{◌≡◌, ◌<◌, sym, ◌∙◌, ap, length, map, arith, inl, inr}
use Rattle.std.specs.Prelude.{Some, None, slice_index_or, bit_and, bit_xor}
use Rattle.bench_net.specs.Scan.{names, signal, name_of, definition, gate_of, gate_line}
use Rattle.bench_net.proofs.Public.{name_of-signal}
use Rattle.list_lemmas.proofs.Places.{place_within}
use Rattle.fault_model.{specs.Detection.{argument, name_on}, proofs.Public.carries}
use Rattle.flat_circuit.specs.Stuck.{stuck_fault}
use Rattle.flat_circuit.proofs.Public.{pin_of, gate_within, lane_zero, lane_of_zero}
use Rattle.block_sim.{proofs.Public.{shown_none, turned_is}, specs.Flips.start_of}
use Rattle.region_sim.proofs.FaultLanes.{none_told, observer_told, pin_come, stem_come}
use Rattle.region_sim.proofs.region.set_out.Goals as goal

pub bounds-view-origin : goal.bounds-view-origin
bounds-view-origin c =
    let circuit = c.args.view.circuit.now.arranged in
    let well = c.requires.view.circuit.well_formed in
    let good = c.args.view.good.now in
    let lanes = c.args.view.lanes in
    let fault = stuck_fault c.args.origin.fault in
    let n = carries c.args.origin.fault.model circuit fault well c.requires.listed in
    let number : c.args.origin.carried ≡ signal circuit n.0 = c.requires.carried n.0 n.1 in
    let lt = place_within (names circuit) _ n.0 (name_of-signal circuit n.0 n.2) in
    omega (arith, lt, number, c.requires.view.count)

pub returns-then-excited-eq0-clause-reached : goal.returns-then-excited-eq0-clause-reached
returns-then-excited-eq0-clause-reached c = λ tests group words k lt.
    let circuit = c.args.view.circuit.now.arranged in
    let well = c.requires.view.circuit.well_formed in
    let good = c.args.view.good.now in
    let lanes = c.args.view.lanes in
    let fault = stuck_fault c.args.origin.fault in
    let n = carries c.args.origin.fault.model circuit fault well c.requires.listed in
    let number : c.args.origin.carried ≡ signal circuit n.0 = c.requires.carried n.0 n.1 in
    none_told circuit well tests group fault good words lanes
    (shown_none circuit tests group fault good n.0 well words n.1 (λ _. ⊥) lanes
    (bit_and (bit_xor c.word.result (slice_index_or good c.args.origin.carried 0)) lanes)
    (turned_is circuit fault good lanes c.args.origin.carried c.word.result n.0 number
    c.word.ensures) 0 (λ k lt. lane_of_zero _ k c.if-excited-eq0.true) lane_zero) k lt

pub gate_change-lanes-requires-clause-gate : goal.gate_change-lanes-requires-clause-gate
gate_change-lanes-requires-clause-gate c =
    let circuit = c.args.view.circuit.now.arranged in
    let well = c.requires.view.circuit.well_formed in
    let good = c.args.view.good.now in
    let lanes = c.args.view.lanes in
    let fault = stuck_fault c.args.origin.fault in
    let n = carries c.args.origin.fault.model circuit fault well c.requires.listed in
    let reads : argument (definition circuit c.in-Pin.gate) c.in-Pin.pin ≡ Some n.0 =
    ap (name_on circuit) (sym c.in-Pin.is) ∙ n.1 in
    let p = pin_of circuit c.in-Pin.gate c.in-Pin.pin n.0 reads in
    let gate_is : gate_of circuit c.in-Pin.gate ≡ Some (p.kind, map (signal circuit) p.args) =
    ap (gate_line circuit) p.is in
    let low : c.in-Pin.gate < length (names circuit) =
    gate_within circuit c.in-Pin.gate c.in-Pin.pin n.0 reads in
    low

pub gate_change-lanes-requires-clause-driven : goal.gate_change-lanes-requires-clause-driven
gate_change-lanes-requires-clause-driven c =
    let circuit = c.args.view.circuit.now.arranged in
    let well = c.requires.view.circuit.well_formed in
    let good = c.args.view.good.now in
    let lanes = c.args.view.lanes in
    let fault = stuck_fault c.args.origin.fault in
    let n = carries c.args.origin.fault.model circuit fault well c.requires.listed in
    let reads : argument (definition circuit c.in-Pin.gate) c.in-Pin.pin ≡ Some n.0 =
    ap (name_on circuit) (sym c.in-Pin.is) ∙ n.1 in
    let p = pin_of circuit c.in-Pin.gate c.in-Pin.pin n.0 reads in
    let gate_is : gate_of circuit c.in-Pin.gate ≡ Some (p.kind, map (signal circuit) p.args) =
    ap (gate_line circuit) p.is in
    let low : c.in-Pin.gate < length (names circuit) =
    gate_within circuit c.in-Pin.gate c.in-Pin.pin n.0 reads in
    ((p.kind, map (signal circuit) p.args), gate_is)

pub returns-in-Stem-clause-reached : goal.returns-in-Stem-clause-reached
returns-in-Stem-clause-reached c = λ tests group words.
    let circuit = c.args.view.circuit.now.arranged in
    let well = c.requires.view.circuit.well_formed in
    let good = c.args.view.good.now in
    let lanes = c.args.view.lanes in
    let fault = stuck_fault c.args.origin.fault in
    let n = carries c.args.origin.fault.model circuit fault well c.requires.listed in
    let number : c.args.origin.carried ≡ signal circuit n.0 = c.requires.carried n.0 n.1 in
    let named : name_of circuit c.in-Stem.start ≡ Some n.0 = ap (name_on circuit) (sym c.in-Stem.is)
    ∙ n.1 in
    stem_come circuit well tests group fault good words lanes c.in-Stem.start
    (bit_and (bit_xor c.word.result (slice_index_or good c.args.origin.carried 0)) lanes) n.0
    named c.in-Stem.is
    (turned_is circuit fault good lanes c.args.origin.carried c.word.result n.0 number
    c.word.ensures)

pub returns-in-Pin-clause-reached : goal.returns-in-Pin-clause-reached
returns-in-Pin-clause-reached c = λ tests group words.
    let circuit = c.args.view.circuit.now.arranged in
    let well = c.requires.view.circuit.well_formed in
    let good = c.args.view.good.now in
    let lanes = c.args.view.lanes in
    let fault = stuck_fault c.args.origin.fault in
    let n = carries c.args.origin.fault.model circuit fault well c.requires.listed in
    let reads : argument (definition circuit c.in-Pin.gate) c.in-Pin.pin ≡ Some n.0 =
    ap (name_on circuit) (sym c.in-Pin.is) ∙ n.1 in
    let p = pin_of circuit c.in-Pin.gate c.in-Pin.pin n.0 reads in
    let gate_is : gate_of circuit c.in-Pin.gate ≡ Some (p.kind, map (signal circuit) p.args) =
    ap (gate_line circuit) p.is in
    let low : c.in-Pin.gate < length (names circuit) =
    gate_within circuit c.in-Pin.gate c.in-Pin.pin n.0 reads in
    pin_come circuit well tests group fault good words lanes c.args.origin.fault.model
    c.requires.listed c.in-Pin.gate c.in-Pin.pin c.in-Pin.is p.kind (map (signal circuit) p.args)
    c.args.changes.now.overlay c.gate_change-lanes.result gate_is c.requires.clear.words
    (λ k lt in_lanes. c.gate_change-lanes.ensures.changed p.kind (map (signal circuit) p.args) k
    gate_is lt in_lanes)

pub returns-in-Data-clause-reached : goal.returns-in-Data-clause-reached
returns-in-Data-clause-reached c = λ tests group words k lt.
    let circuit = c.args.view.circuit.now.arranged in
    let well = c.requires.view.circuit.well_formed in
    let good = c.args.view.good.now in
    let lanes = c.args.view.lanes in
    let fault = stuck_fault c.args.origin.fault in
    let n = carries c.args.origin.fault.model circuit fault well c.requires.listed in
    let number : c.args.origin.carried ≡ signal circuit n.0 = c.requires.carried n.0 n.1 in
    let detection = λ (none : start_of fault.line ≡ None). observer_told circuit well tests group
    fault good words lanes c.args.origin.fault.model
    (bit_and (bit_xor c.word.result (slice_index_or good c.args.origin.carried 0)) lanes) n.0
    c.requires.listed none n.1
    (turned_is circuit fault good lanes c.args.origin.carried c.word.result n.0 number
    c.word.ensures) k lt in
    elim c.in-Data.is [
      | inl x ↦ detection (ap start_of x.1)
      | inr x ↦ detection (ap start_of x.1)
    ]

pub returns-in-Stem-clause-signal : goal.returns-in-Stem-clause-signal
returns-in-Stem-clause-signal c = λ at e.
    let circuit = c.args.view.circuit.now.arranged in
    let well = c.requires.view.circuit.well_formed in
    let fault = stuck_fault c.args.origin.fault in
    let n = carries c.args.origin.fault.model circuit fault well c.requires.listed in
    let lt = place_within (names circuit) c.in-Stem.start n.0 (ap (name_on circuit)
    (sym c.in-Stem.is) ∙ n.1) in
    let same : c.in-Stem.start ≡ at.signal = cc in
    omega (arith, lt, same)

pub returns-in-Pin-clause-signal : goal.returns-in-Pin-clause-signal
returns-in-Pin-clause-signal c = λ at e.
    let circuit = c.args.view.circuit.now.arranged in
    let well = c.requires.view.circuit.well_formed in
    let fault = stuck_fault c.args.origin.fault in
    let n = carries c.args.origin.fault.model circuit fault well c.requires.listed in
    let reads : argument (definition circuit c.in-Pin.gate) c.in-Pin.pin ≡ Some n.0 =
    ap (name_on circuit) (sym c.in-Pin.is) ∙ n.1 in
    let low = gate_within circuit c.in-Pin.gate c.in-Pin.pin n.0 reads in
    let same : c.in-Pin.gate ≡ at.signal = cc in
    omega (arith, low, same)
