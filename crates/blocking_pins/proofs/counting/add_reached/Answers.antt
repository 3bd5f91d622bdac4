use Rattle.std.proofs.Common.{◌≡◌, ◌<◌, ◌+◌, ◌∙◌, ℕ, arith, length, subst, true}
use Rattle.std.{specs.Prelude.slice_index_or, proofs.lemmas.List.get_or_default}
use Rattle.flat_circuit.specs.{Stuck.stuck_fault, Words.lane}
use Rattle.blocking_pins.specs.{Counting.{AreAdded, StopsAt, StopsReached}, Effects.Stops}
use Rattle.blocking_pins.proofs.Adding.{added_more, added_none, added_same}
use Rattle.blocking_pins.proofs.GroupBlocks.{ReachedBelow, reached_all, reached_from, reached_split}
use Rattle.blocking_pins.proofs.counting.add_reached.Goals as goal

pub loop-place-init : goal.loop-place-init
loop-place-init c = added_none c.args.number (ReachedBelow c.args.view.circuit.now.arranged
    (stuck_fault c.args.fault) c.args.view.good.now c.args.delta.now c.args.view.lanes
    c.args.pins.now.starts.items c.args.reached.now 0) c.args.counts.now c.args.row.now
    (λ i k low s. let lt = s.1 in omega (arith, lt))

pub loop-place-preserved : goal.loop-place-preserved
loop-place-preserved c =
    let circuit = c.args.view.circuit.now.arranged in
    let f = stuck_fault c.args.fault in
    let good = c.args.view.good.now in
    let delta = c.args.delta.now in
    let lanes = c.args.view.lanes in
    let starts = c.args.pins.now.starts.items in
    let reached = c.args.reached.now in
    let j = c.loop-place.place-index in
    let gate = slice_index_or reached j 0 in
    let low = c.requires.within j 0 c.loop-place-test.true in
    let in_starts : gate < length starts = omega (arith, low, c.requires.starts) in
    let own : AreAdded c.args.number (StopsAt circuit f good delta lanes starts gate)
    c.loop-place.counts c.add_gate.new.counts c.loop-place.row c.add_gate.new.row =
    subst (λ x. AreAdded c.args.number (λ i k. (pin : ℕ) × (i ≡ x + pin)
    × (lane lanes k ≡ true) × Stops circuit f good delta gate pin k) c.loop-place.counts
    c.add_gate.new.counts c.loop-place.row c.add_gate.new.row)
    (c.index-start.ensures ∙ get_or_default starts gate c.index-start.result.now 0 in_starts)
    c.add_gate.ensures in
    added_more c.args.number (ReachedBelow circuit f good delta lanes starts reached j)
    (StopsAt circuit f good delta lanes starts gate)
    (ReachedBelow circuit f good delta lanes starts reached (j + 1)) c.args.counts.now
    c.loop-place.counts c.add_gate.new.counts c.args.row.now c.loop-place.row c.add_gate.new.row
    (λ i k low s. reached_split circuit f good delta lanes starts reached j i k s)
    (λ i k low s. (s.0, (let lt = s.1 in omega (arith, lt)), s.2))
    (λ i k low s. (j, omega arith, s)) c.loop-place.invariant own

pub returns : goal.returns
returns c =
    let circuit = c.args.view.circuit.now.arranged in
    let f = stuck_fault c.args.fault in
    let good = c.args.view.good.now in
    let delta = c.args.delta.now in
    let lanes = c.args.view.lanes in
    let starts = c.args.pins.now.starts.items in
    let reached = c.args.reached.now in
    let end = c.loop-place.place-index in
    added_same c.args.number (ReachedBelow circuit f good delta lanes starts reached end)
    (StopsReached circuit f good delta lanes starts reached) c.args.counts.now c.loop-place.counts
    c.args.row.now c.loop-place.row
    (λ i k low s. reached_from circuit f good delta lanes starts reached end i k
    c.loop-place.auto.place-index-end s)
    (λ i k low s. reached_all circuit f good delta lanes starts reached end i k
    c.loop-place-test.false s) c.loop-place.invariant
