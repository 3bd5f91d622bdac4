use Rattle.std.proofs.Common.{◌<◌, ◌^◌, sym, ◌∙◌, ap, length, arith, inl, inr}
use Rattle.std.specs.Prelude.{slice_index_or, bit_and, bit_xor}
use Rattle.bench_net.specs.declared.Sink.TheVariants as sink
use Rattle.fault_model.specs.Detection.{name_on}
use Rattle.block_sim.specs.{PropagationState.IsAsLarge, Propagation.IsSettled}
use Rattle.block_sim.proofs.FaultStart.{shown_none, shown_at_observer, turned_is}
use Rattle.block_sim.proofs.LineStarts.{is_carried, is_on_name, pin_counted, starts_on_pin}
use Rattle.block_sim.proofs.{LineStarts.starts_on_stem, Moments.large_enough}
use Rattle.flat_circuit.{specs.Stuck.stuck_fault, proofs.Public.lane_of_zero}
use Rattle.flat_circuit.proofs.Public.{output_observed, data_observed, lane_zero, only_lanes}
use Rattle.block_sim.proofs.fault_site.propagate_fault.Goals as goal

pub carried-signal-requires-clause-named : goal.carried-signal-requires-clause-named
carried-signal-requires-clause-named c =
    is_on_name c.args.view.circuit.now.arranged c.args.fault.model (stuck_fault c.args.fault)
    c.requires.view.circuit.well_formed c.requires.listed

pub bounds-view-signal : goal.bounds-view-signal
bounds-view-signal c =
    let carried = is_carried c.args.view.circuit.now.arranged c.args.fault.model
    (stuck_fault c.args.fault) c.requires.view.circuit.well_formed c.requires.listed
    c.carried-signal.result c.carried-signal.ensures in
    omega (arith, carried.within, c.requires.view.count)

pub returns-then-excited-eq0-clause-shown : goal.returns-then-excited-eq0-clause-shown
returns-then-excited-eq0-clause-shown c = λ tests group words.
    let circuit = c.args.view.circuit.now.arranged in
    let well = c.requires.view.circuit.well_formed in
    let good = c.args.view.good.now in
    let lanes = c.args.view.lanes in
    let fault = stuck_fault c.args.fault in
    let number = c.carried-signal.result in
    let word = c.word.result in
    let carried = is_carried circuit c.args.fault.model fault well c.requires.listed number
    c.carried-signal.ensures in
    shown_none circuit tests group fault good carried.name well words carried.on
    (IsSettled c.args.extent 0) lanes (bit_and (bit_xor word (slice_index_or good number 0)) lanes)
    (turned_is circuit fault good lanes number word carried.name carried.is c.word.ensures) 0
    (λ k lt. lane_of_zero _ k c.if-excited-eq0.true) lane_zero

pub propagate-requires-clause-start : goal.propagate-requires-clause-start
propagate-requires-clause-start c =
    (starts_on_stem c.args.view.circuit.now.arranged c.args.fault.model (stuck_fault c.args.fault)
    c.requires.view.circuit.well_formed c.requires.listed c.carried-signal.result
    c.carried-signal.ensures c.args.view.good.now c.args.view.lanes c.word.result c.word.ensures
    c.args.changes.now.overlay c.in-Stem.start c.in-Stem.is c.requires.room.overlay).within

pub propagate-requires-clause-inside : goal.propagate-requires-clause-inside
propagate-requires-clause-inside c = λ k lt e. only_lanes _ c.args.view.lanes k e

pub propagate-requires-clause-first : goal.propagate-requires-clause-first
propagate-requires-clause-first c =
    let fault = stuck_fault c.args.fault in
    let stem = starts_on_stem c.args.view.circuit.now.arranged c.args.fault.model fault
    c.requires.view.circuit.well_formed c.requires.listed c.carried-signal.result
    c.carried-signal.ensures c.args.view.good.now c.args.view.lanes c.word.result c.word.ensures
    c.args.changes.now.overlay c.in-Stem.start c.in-Stem.is c.requires.room.overlay in
    let tests = c.requires.words.0 in
    let group = c.requires.words.1 in
    (tests, group, λ _. fault, stem.first tests group c.requires.words.2)

pub gate_change-diff-requires-clause-gate : goal.gate_change-diff-requires-clause-gate
gate_change-diff-requires-clause-gate c =
    (starts_on_pin c.args.view.circuit.now.arranged c.args.fault.model (stuck_fault c.args.fault)
    c.requires.view.circuit.well_formed c.requires.listed c.args.view.good.now c.args.view.lanes
    c.in-Pin.gate c.in-Pin.pin c.in-Pin.is).within

pub gate_change-diff-requires-clause-driven : goal.gate_change-diff-requires-clause-driven
gate_change-diff-requires-clause-driven c =
    (starts_on_pin c.args.view.circuit.now.arranged c.args.fault.model (stuck_fault c.args.fault)
    c.requires.view.circuit.well_formed c.requires.listed c.args.view.good.now c.args.view.lanes
    c.in-Pin.gate c.in-Pin.pin c.in-Pin.is).driven

pub propagate-requires-in-Pin-clause-start : goal.propagate-requires-in-Pin-clause-start
propagate-requires-in-Pin-clause-start c =
    (starts_on_pin c.args.view.circuit.now.arranged c.args.fault.model (stuck_fault c.args.fault)
    c.requires.view.circuit.well_formed c.requires.listed c.args.view.good.now c.args.view.lanes
    c.in-Pin.gate c.in-Pin.pin c.in-Pin.is).within

pub propagate-requires-in-Pin-clause-first : goal.propagate-requires-in-Pin-clause-first
propagate-requires-in-Pin-clause-first c =
    let fault = stuck_fault c.args.fault in
    let pin = starts_on_pin c.args.view.circuit.now.arranged c.args.fault.model fault
    c.requires.view.circuit.well_formed c.requires.listed c.args.view.good.now c.args.view.lanes
    c.in-Pin.gate c.in-Pin.pin c.in-Pin.is in
    let tests = c.requires.words.0 in
    let group = c.requires.words.1 in (
      tests,
      group,
      λ _. fault,
      pin.first tests group c.args.changes.now.overlay c.gate_change-diff.new.changes.overlay
          c.gate_change-diff.result c.requires.words.2 c.requires.room.overlay
          c.gate_change-diff.ensures.overlay c.gate_change-diff.ensures.changed,
    )

pub propagate-requires-in-Pin-clause-room : goal.propagate-requires-in-Pin-clause-room
propagate-requires-in-Pin-clause-room c =
    let large : IsAsLarge c.args.changes.now c.gate_change-diff.new.changes = record {
      overlay = ap length c.gate_change-diff.ensures.overlay;
      gates = ap length c.gate_change-diff.ensures.waiting;
    } in
    large_enough c.args.view.circuit.now.arranged c.args.changes.now c.gate_change-diff.new.changes
    c.requires.room large

pub returns-in-Stem-clause-shown : goal.returns-in-Stem-clause-shown
returns-in-Stem-clause-shown c = λ tests group words.
    let fault = stuck_fault c.args.fault in
    let stem = starts_on_stem c.args.view.circuit.now.arranged c.args.fault.model fault
    c.requires.view.circuit.well_formed c.requires.listed c.carried-signal.result
    c.carried-signal.ensures c.args.view.good.now c.args.view.lanes c.word.result c.word.ensures
    c.args.changes.now.overlay c.in-Stem.start c.in-Stem.is c.requires.room.overlay in
    c.propagate.ensures.shown tests group (λ _. fault) (stem.first tests group words)

pub returns-in-Stem-clause-counted : goal.returns-in-Stem-clause-counted
returns-in-Stem-clause-counted c = λ tests group gates words sized all.
    let fault = stuck_fault c.args.fault in
    let stem = starts_on_stem c.args.view.circuit.now.arranged c.args.fault.model fault
    c.requires.view.circuit.well_formed c.requires.listed c.carried-signal.result
    c.carried-signal.ensures c.args.view.good.now c.args.view.lanes c.word.result c.word.ensures
    c.args.changes.now.overlay c.in-Stem.start c.in-Stem.is c.requires.room.overlay in
    let le = c.propagate.ensures.counted tests group (λ _. fault) gates
    (stem.first tests group words) sized all in
    omega (arith, le)

pub returns-in-Pin-clause-shown : goal.returns-in-Pin-clause-shown
returns-in-Pin-clause-shown c = λ tests group words.
    let fault = stuck_fault c.args.fault in
    let pin = starts_on_pin c.args.view.circuit.now.arranged c.args.fault.model fault
    c.requires.view.circuit.well_formed c.requires.listed c.args.view.good.now c.args.view.lanes
    c.in-Pin.gate c.in-Pin.pin c.in-Pin.is in
    c.propagate-in-Pin.ensures.shown tests group (λ _. fault)
    (pin.first tests group c.args.changes.now.overlay c.gate_change-diff.new.changes.overlay
    c.gate_change-diff.result words c.requires.room.overlay c.gate_change-diff.ensures.overlay
    c.gate_change-diff.ensures.changed)

pub returns-in-Pin-clause-counted : goal.returns-in-Pin-clause-counted
returns-in-Pin-clause-counted c = λ tests group gates words sized all.
    let circuit = c.args.view.circuit.now.arranged in
    let well = c.requires.view.circuit.well_formed in
    let good = c.args.view.good.now in
    let lanes = c.args.view.lanes in
    let fault = stuck_fault c.args.fault in
    let pin = starts_on_pin circuit c.args.fault.model fault well c.requires.listed good lanes
    c.in-Pin.gate c.in-Pin.pin c.in-Pin.is in
    let below : lanes < 2 ^ 128 = omega arith in
    let counted = pin_counted circuit c.args.fault.model fault well c.requires.listed
    c.carried-signal.result c.carried-signal.ensures good lanes c.word.result c.word.ensures tests
    group c.in-Pin.gate c.in-Pin.pin gates words c.in-Pin.is below c.if-excited-eq0.false sized
    all in
    let le = c.propagate-in-Pin.ensures.counted tests group (λ _. fault) gates
    (pin.first tests group c.args.changes.now.overlay c.gate_change-diff.new.changes.overlay
    c.gate_change-diff.result words c.requires.room.overlay c.gate_change-diff.ensures.overlay
    c.gate_change-diff.ensures.changed) sized all in
    omega (arith, le, counted, c.gate_change-diff.ensures.counted)

pub returns-in-Data-clause-shown : goal.returns-in-Data-clause-shown
returns-in-Data-clause-shown c = λ tests group words.
    let circuit = c.args.view.circuit.now.arranged in
    let well = c.requires.view.circuit.well_formed in
    let good = c.args.view.good.now in
    let lanes = c.args.view.lanes in
    let fault = stuck_fault c.args.fault in
    let number = c.carried-signal.result in
    let word = c.word.result in
    let carried = is_carried circuit c.args.fault.model fault well c.requires.listed number
    c.carried-signal.ensures in
    let excited = bit_and (bit_xor word (slice_index_or good number 0)) lanes in
    let at_observer = shown_at_observer circuit tests group fault good carried.name well words
    carried.on (IsSettled c.args.extent excited) lanes excited
    (turned_is circuit fault good lanes number word carried.name carried.is c.word.ensures) in
    elim c.in-Data.is [
      | inl x ↦ at_observer (sink.Data x.0) (sym x.1)
          (data_observed circuit x.0 carried.name (ap (name_on circuit) (sym x.1) ∙ carried.on))
      | inr x ↦ at_observer (sink.Out x.0) (sym x.1)
          (output_observed circuit x.0 carried.name (ap (name_on circuit) (sym x.1) ∙ carried.on))
    ]
