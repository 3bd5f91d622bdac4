use Rattle.std.proofs.Common.{◌≡◌, ◌<◌, ℕ, sym, ◌∙◌, ap, arith}
use Rattle.std.specs.Prelude.{None, slice_index_or, bit_and, bit_xor}
use Rattle.fault_model.specs.Solution.{value}
use Rattle.flat_circuit.{specs.Words.{lane, pin_bits}, proofs.Public.changed_to}
use Rattle.flat_circuit.proofs.Public.{pins_within, pins_few, pins_some, no_change, only_lanes}
use Rattle.block_sim.proofs.Moments.{idle_still, leads_changed, leads_same}
use Rattle.block_sim.proofs.propagation.evaluate_waiting.Goals as goal

pub evaluate_gate-word-requires-clause-pins_in : goal.evaluate_gate-word-requires-clause-pins_in
evaluate_gate-word-requires-clause-pins_in c = λ k d lt.
    let within = pins_within c.args.view.circuit.now.arranged c.args.gate c.in-Some.driver.kind
    c.in-Some.driver.pins.now c.requires.view.circuit.well_formed (sym c.in-Some.ensures.gate) k d
    lt in
    omega (arith, within, c.requires.view.count)

pub evaluate_gate-word-requires-clause-some : goal.evaluate_gate-word-requires-clause-some
evaluate_gate-word-requires-clause-some c =
    pins_some c.args.view.circuit.now.arranged c.args.gate c.in-Some.driver.kind
    c.in-Some.driver.pins.now c.requires.view.circuit (sym c.in-Some.ensures.gate)

pub evaluate_gate-word-requires-clause-few : goal.evaluate_gate-word-requires-clause-few
evaluate_gate-word-requires-clause-few c =
    pins_few c.args.view.circuit.now.arranged c.args.gate c.in-Some.driver.kind
    c.in-Some.driver.pins.now c.requires.view.circuit (sym c.in-Some.ensures.gate)

pub returns-then-diff-eq0-clause-leads : goal.returns-then-diff-eq0-clause-leads
returns-then-diff-eq0-clause-leads c = λ seen.
    let circuit = c.args.view.circuit.now.arranged in
    let good = c.args.view.good.now in
    let old = c.args.changes.now in
    let gate = c.args.gate in
    let word = c.evaluate_gate-word.result in
    let own = c.in-Some.driver in
    let valued : (k : ℕ) → k < 128
    → lane word k ≡ value own.kind (pin_bits None gate own.pins.now good old.overlay k) =
    λ k lt. c.evaluate_gate-word.ensures.value k lt
    ∙ ap (λ d. value own.kind (pin_bits None gate own.pins.now good d k)) c.words-delta.ensures in
    leads_same circuit good c.args.view.lanes c.requires.view.circuit.well_formed old.overlay
    old.waiting old.evaluations c.evaluate_gate-word.new.evaluations c.args.kept seen gate
    (omega (arith, c.requires.taken.within, c.requires.room.gates)) (omega (
      arith,
      c.requires.taken.within,
      c.requires.room.overlay,
    )) c.requires.taken.waits
    c.evaluate_gate-word.ensures.grown (omega (arith, c.evaluate_gate-word.ensures.counted))
    own.kind own.pins.now (sym c.in-Some.ensures.gate) word valued
    (λ k lt e. no_change word (slice_index_or good gate 0) c.args.kept k c.if-diff-eq0.true e)

pub returns-clause-leads : goal.returns-clause-leads
returns-clause-leads c = λ seen.
    let circuit = c.args.view.circuit.now.arranged in
    let good = c.args.view.good.now in
    let old = c.args.changes.now in
    let gate = c.args.gate in
    let word = c.evaluate_gate-word.result in
    let own = c.in-Some.driver in
    let valued : (k : ℕ) → k < 128
    → lane word k ≡ value own.kind (pin_bits None gate own.pins.now good old.overlay k) =
    λ k lt. c.evaluate_gate-word.ensures.value k lt
    ∙ ap (λ d. value own.kind (pin_bits None gate own.pins.now good d k)) c.words-delta.ensures in
    let diff = bit_and (bit_xor word (slice_index_or good gate 0)) c.args.kept in
    let counted = c.change.ensures.evaluations in
    leads_changed circuit good c.args.view.lanes c.requires.view.circuit.well_formed old.overlay
    old.waiting old.evaluations c.change.new.changes.evaluations c.args.kept seen gate
    (omega (arith, c.requires.taken.within, c.requires.room.gates)) (omega (
      arith,
      c.requires.taken.within,
      c.requires.room.overlay,
    )) c.requires.taken.waits (omega (arith, counted, c.evaluate_gate-word.ensures.grown)) (omega (
      arith,
      counted,
      c.evaluate_gate-word.ensures.counted,
    )) own.kind own.pins.now (sym c.in-Some.ensures.gate) word valued
    diff c.change.result c.change.new.changes.overlay c.change.new.changes.waiting
    c.requires.taken.clear c.change.ensures.changed c.if-diff-eq0.false c.change.ensures.some
    (λ k lt e. only_lanes (bit_xor word (slice_index_or good gate 0)) c.args.kept k e)
    (λ k lt e. changed_to word (slice_index_or good gate 0) c.args.kept k e)
    c.change.ensures.scheduled c.change.ensures.shown

pub returns-clause-idle : goal.returns-clause-idle
returns-clause-idle c =
    idle_still c.args.view.circuit.now.arranged c.args.gate c.args.changes.now.waiting
    c.change.new.changes.waiting c.requires.view.circuit.well_formed c.change.ensures.scheduled
    c.requires.taken.waits
