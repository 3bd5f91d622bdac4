use Rattle.std.proofs.Common.{◌≡◌, ◌<◌, ℕ, sym, ◌∙◌, ap, arith, length, refl, set}
use Rattle.std.specs.Prelude.{None}
use Rattle.fault_model.specs.Solution.{value}
use Rattle.flat_circuit.{specs.Words.{lane, pin_bits}, proofs.Public.turned_pins}
use Rattle.flat_circuit.proofs.Public.{pins_within, pins_some, reader_within, only_lanes}
use Rattle.block_sim.proofs.Public.{crossed, crossed_where, read_within, reader_driven}
use Rattle.region_sim.proofs.region.cross.Goals as goal

pub gate_of-requires : goal.gate_of-requires
gate_of-requires c = reader_within c.args.view.circuit.now.arranged c.args.gate c.args.at.signal
    c.requires.read.reads

pub evaluate_turned-word-requires-clause-some : goal.evaluate_turned-word-requires-clause-some
evaluate_turned-word-requires-clause-some c =
    pins_some c.args.view.circuit.now.arranged c.args.gate c.in-Some.driver.kind
    c.in-Some.driver.pins.now c.requires.view.circuit (sym c.in-Some.ensures.gate)

pub evaluate_turned-word-requires-clause-pins_in : goal.evaluate_turned-word-requires-clause-pins_in
evaluate_turned-word-requires-clause-pins_in c = λ k d lt.
    let within = pins_within c.args.view.circuit.now.arranged c.args.gate c.in-Some.driver.kind
    c.in-Some.driver.pins.now c.requires.view.circuit.well_formed (sym c.in-Some.ensures.gate) k d
    lt in
    omega (arith, within, c.requires.view.count)

pub bounds-view-gate : goal.bounds-view-gate
bounds-view-gate c =
    let lt = reader_within c.args.view.circuit.now.arranged c.args.gate c.args.at.signal
    c.requires.read.reads in
    omega (arith, lt, c.requires.view.count)

pub unreachable-requires : goal.unreachable-requires
unreachable-requires c = reader_driven c.args.view.circuit.now.arranged c.args.gate c.args.at.signal
    c.requires.view.circuit.well_formed c.requires.read.reads (sym c.in-None.ensures.gate)

pub returns-clause-come : goal.returns-clause-come
returns-clause-come c = λ tests group f words come.
    let circuit = c.args.view.circuit.now.arranged in
    let good = c.args.view.good.now in
    let s = c.args.at.signal in
    let own = c.in-Some.driver in
    let low = read_within circuit c.args.gate s c.requires.view.circuit.well_formed
    c.requires.read.reads in
    let within : s < length c.args.changes.now.overlay = omega (
      arith,
      low,
      c.requires.room.overlay,
    ) in
    let delta = set c.args.changes.now.overlay s c.args.at.lanes in
    let valued : (k : ℕ) → k < 128 → lane c.evaluate_turned-word.result k ≡ value own.kind
    (pin_bits None c.args.gate own.pins.now good delta k) =
    λ k lt. c.evaluate_turned-word.ensures.value k lt ∙ ap (value own.kind)
    (turned_pins good c.args.changes.now.overlay s c.args.at.lanes k c.requires.clear.words within
    c.args.gate own.pins.now) in
    crossed circuit tests group f good c.args.view.lanes s c.args.gate c.args.at.lanes
    c.evaluate_turned-word.result own.kind own.pins.now c.args.changes.now.overlay delta
    c.requires.view.circuit.well_formed words c.requires.read (sym c.in-Some.ensures.gate)
    c.requires.clear.words within refl valued come

pub returns-clause-passed : goal.returns-clause-passed
returns-clause-passed c = λ tests group k words lt e.
    let circuit = c.args.view.circuit.now.arranged in
    let good = c.args.view.good.now in
    let s = c.args.at.signal in
    let own = c.in-Some.driver in
    let low = read_within circuit c.args.gate s c.requires.view.circuit.well_formed
    c.requires.read.reads in
    let within : s < length c.args.changes.now.overlay = omega (
      arith,
      low,
      c.requires.room.overlay,
    ) in
    let delta = set c.args.changes.now.overlay s c.args.at.lanes in
    let valued : (k : ℕ) → k < 128 → lane c.evaluate_turned-word.result k ≡ value own.kind
    (pin_bits None c.args.gate own.pins.now good delta k) =
    λ k lt. c.evaluate_turned-word.ensures.value k lt ∙ ap (value own.kind)
    (turned_pins good c.args.changes.now.overlay s c.args.at.lanes k c.requires.clear.words within
    c.args.gate own.pins.now) in
    crossed_where circuit tests group good c.args.view.lanes s c.args.gate c.args.at.lanes
    c.evaluate_turned-word.result own.kind own.pins.now c.args.changes.now.overlay delta
    c.requires.view.circuit.well_formed words c.requires.read (sym c.in-Some.ensures.gate)
    c.requires.clear.words within refl valued k lt e

pub returns-clause-inside : goal.returns-clause-inside
returns-clause-inside c = λ k e. only_lanes _ c.args.view.lanes k e
