use Rattle.std.proofs.Common.{◌≡◌, ◌≢◌, ◌<◌, ◌≤◌, ◌⊎◌, ℕ, ◌∙◌, refl, true, false, ap, arith, inl}
use Rattle.std.{proofs.Common.{inr, length, subst, sym}, specs.Prelude.{All, map, slice_index_or}}
use Rattle.std.proofs.lemmas.{Bool.false≢true, List.length-set}
use Rattle.bench_net.specs.Scan.{names, signal}
use Rattle.wide_words.specs.Wide.{number}
use Rattle.flat_circuit.specs.{Readers.{IsObserved, Reads}, Words.lane}
use Rattle.flat_circuit.proofs.Public.{lane_zero, reader_within}
use Rattle.region_sim.{specs.Pack.{AreHitIn, AreSlots, TellsPack}, proofs.OneLane.bit_cases}
use Rattle.region_sim.proofs.PackRuns.{gate_rows, goes_on, more_hits, or_on, stays_inside, told}
use Rattle.region_sim.proofs.{PackStarts.{started, stem_low}, PackSteps.stepped}
use Rattle.region_sim.proofs.{PackWords.{differs_in, each}, pack.propagate.Goals.In-Some}
use Rattle.block_sim.proofs.Public.{gate_named_of_signal_equations as gate_named}
use Rattle.region_sim.proofs.pack.propagate.Goals as goal

pub loop-gate-init : goal.loop-gate-init
loop-gate-init g c =
    let h = c.begin_stems-begun.ensures.started in
    let circuit = c.args.circuit.now.arranged in
    let slots : AreSlots g.C.Copies.layout circuit c.as_slice-stems.result.now c.args.followed.now =
    subst (λ xs. AreSlots g.C.Copies.layout circuit xs c.args.followed.now)
    (sym c.as_slice-stems.ensures.value) c.requires.slots in
    record {
      deltas = refl;
      waiting = refl;
      within = c.begin_stems-begun.ensures.within;
      inside = λ s k lt on. h.kept k lt
          ∙ (ap (λ x. differs_in c.begin_stems-begun.new.deltas x k) (sym (h.only s k lt on)) ∙ on);
      narrow = λ k lt on. on;
      settled = λ k lt on off. absurd (false≢true (sym off ∙ on));
      state = λ tests group well rising free.
          started g.C.Copies.layout g.C.Copies.sized c.args.circuit.now.arranged well rising
          tests group (g.C.Copies.rows c.args.copies) free c.as_slice-stems.result.now
          c.args.followed.now c.begin_stems-begun.new.deltas c.begin_stems-begun.new.waiting
          (number c.begin_stems-begun.result.kept) (number c.none.result)
          c.begin_stems-begun.result.from
          h (each (λ slot. ¬ IsObserved circuit slot.stem) c.as_slice-stems.result.now slots.hidden)
          (λ k lt. ap (λ w. lane w k) c.none.ensures ∙ lane_zero k);
    }

pub next_gate-requires-clause-within : goal.next_gate-requires-clause-within
next_gate-requires-clause-within g c =
    let last = c.loop-gate.invariant in
    let room = c.requires.room.gates in
    let same = last.waiting in
    let was = c.begin_stems-begun.ensures.room.1 in
    let le = last.within in
    omega (arith, room, same, was, le)

pub next_gate-requires-clause-low : goal.next_gate-requires-clause-low
next_gate-requires-clause-low g c =
    let w = c.requires.free in
    (c.loop-gate.invariant.state w.0 w.1 c.requires.circuit.well_formed
    c.signals-signals.ensures.rising w.2).not_below

pub evaluate_waiting-fresh-requires-clause-room : goal.evaluate_waiting-fresh-requires-clause-room
evaluate_waiting-fresh-requires-clause-room g c =
    let a = c.requires.room.deltas in
    let b = c.loop-gate.invariant.deltas in
    let d = c.begin_stems-begun.ensures.room.0 in omega (arith, a, b, d)

pub evaluate_waiting-fresh-requires-clause-gates : goal.evaluate_waiting-fresh-requires-clause-gates
evaluate_waiting-fresh-requires-clause-gates g c =
    let taken = ap length c.in-Some.ensures.some.1
    ∙ length-set c.loop-gate.waiting c.in-Some.gate 0 in
    let a = c.requires.room.gates in
    let b = c.loop-gate.invariant.waiting in
    let d = c.begin_stems-begun.ensures.room.1 in omega (arith, a, b, d, taken)

pub evaluate_waiting-fresh-requires-clause-words : goal.evaluate_waiting-fresh-requires-clause-words
evaluate_waiting-fresh-requires-clause-words g c =
    let w = c.requires.free in
    gate_rows c.args.circuit.now.arranged c.requires.circuit.well_formed w.0 g.C.Copies.layout w.1
    (g.C.Copies.rows c.args.copies) w.2

-- a signal that the gate reads differs
touched : (g : _) (c : In-Some g) → (s : ℕ) × (k : ℕ) × (k < 512)
    × Reads c.args.circuit.now.arranged c.in-Some.gate s × (differs_in c.loop-gate.deltas s k
    ≡ true)
touched g c =
    let w = c.requires.free in
    (c.loop-gate.invariant.state w.0 w.1 c.requires.circuit.well_formed
    c.signals-signals.ensures.rising w.2).touched c.in-Some.gate
    (let one = c.in-Some.ensures.some.0 in λ e. omega (arith, one, e))

from_behind : (g : _) (c : In-Some g) → c.loop-gate.from ≤ c.in-Some.gate
from_behind g c =
    let w = c.requires.free in
    (c.loop-gate.invariant.state w.0 w.1 c.requires.circuit.well_formed
    c.signals-signals.ensures.rising w.2).not_below c.in-Some.gate
    (let one = c.in-Some.ensures.some.0 in λ e. omega (arith, one, e))

pub evaluate_waiting-fresh-requires-clause-driven :
    goal.evaluate_waiting-fresh-requires-clause-driven
evaluate_waiting-fresh-requires-clause-driven g c =
    let r = (touched g (goal.at.evaluate_waiting-fresh-requires-clause-driven g c).In-Some).3 in (
      (r.kind, map (signal c.args.circuit.now.arranged) r.args),
      gate_named c.args.circuit.now.arranged r.name r.kind r.args c.in-Some.gate
          c.requires.circuit.well_formed r.number r.gate,
    )

pub evaluate_waiting-fresh-requires-clause-within :
    goal.evaluate_waiting-fresh-requires-clause-within
evaluate_waiting-fresh-requires-clause-within g c =
    let by = touched g (goal.at.evaluate_waiting-fresh-requires-clause-within g c).In-Some in
    reader_within c.args.circuit.now.arranged c.in-Some.gate by.0 by.3

pub overflow_add-from : goal.overflow_add-from
overflow_add-from g c =
    let by = touched g (goal.at.overflow_add-from g c).In-Some in
    let lt = reader_within c.args.circuit.now.arranged c.in-Some.gate by.0 by.3 in
    let count = c.signals-signals.ensures.count in
    let small = c.signals-signals.type_inv in
    omega (arith, lt, count, small)

pub loop-gate-smaller : goal.loop-gate-smaller
loop-gate-smaller g c =
    let at = (goal.at.loop-gate-smaller g c).In-Some in
    let by = touched g at in
    let lt = reader_within c.args.circuit.now.arranged c.in-Some.gate by.0 by.3 in
    let le = from_behind g at in
    omega (arith, lt, le)

pub loop-gate-preserved : goal.loop-gate-preserved
loop-gate-preserved g c =
    let at = (goal.at.loop-gate-preserved g c).In-Some in
    let last = c.loop-gate.invariant in
    let circuit = c.args.circuit.now.arranged in
    let fresh = c.evaluate_waiting-fresh.ensures in
    let on = c.follow_on-found.ensures in
    let by = touched g at in
    let gate = c.in-Some.gate in
    let lt = reader_within circuit gate by.0 by.3 in
    let room = c.requires.room.deltas in
    let begun = c.begin_stems-begun.ensures.room.0 in
    let same = last.deltas in
    let ev = stepped g.C.Copies.layout circuit c.requires.circuit.well_formed
    (g.C.Copies.rows c.args.copies) (number c.loop-gate.found.kept) gate c.loop-gate.deltas
    c.next_gate.new.waiting c.evaluate_waiting-fresh.new.deltas c.evaluate_waiting-fresh.new.waiting
    (number c.evaluate_waiting-fresh.result) (omega (arith, lt, room, begun, same)) fresh.evaluated
    fresh.some fresh.scheduled fresh.same fresh.shown in
    let waits : slice_index_or c.loop-gate.waiting gate 0 ≢ 0 =
    λ e. (let one = c.in-Some.ensures.some.0 in omega (arith, one, e)) in
    let taken = ap length c.in-Some.ensures.some.1 ∙ length-set c.loop-gate.waiting gate 0 in
    record {
      deltas = ap length fresh.evaluated.2 ∙ (length-set c.loop-gate.deltas gate _ ∙ last.deltas);
      waiting = (let a = c.evaluate_waiting-fresh.ensures.gates in a ∙ (taken ∙ last.waiting));
      within = omega (arith, lt);
      inside = stays_inside g.C.Copies.layout circuit (g.C.Copies.rows c.args.copies) (number
          c.loop-gate.found.kept) gate by.0 by.3 c.loop-gate.deltas c.next_gate.new.waiting
          c.evaluate_waiting-fresh.new.deltas c.evaluate_waiting-fresh.new.waiting
          (number c.evaluate_waiting-fresh.result) ev
          (lane (number c.begin_stems-begun.result.kept)) last.inside last.narrow;
      narrow = λ k low e. last.narrow k low (on.narrow k low e);
      settled = λ k low begun off. (let go : (lane (number c.loop-gate.found.kept) k ≡ true)
          ⊎ (lane (number c.loop-gate.found.kept) k ≡ false) → (g.G.Goal.ALL_LANES ≡ false)
          × AreHitIn g.C.Copies.layout c.as_slice-stems.result.now c.args.followed.now
          (number c.follow_on-found.result.seen) k = elim [
            | inl is ↦ on.rest k low is off
            | inr is ↦ (
              (last.settled k low begun is).0,
              more_hits g.C.Copies.layout c.as_slice-stems.result.now c.args.followed.now
                  (number c.loop-gate.found.seen) (number c.follow_on-found.result.seen) k
                  (λ j below e. on.seen j below ∙ or_on _ _ e) (last.settled k low begun is).1,
            )
          ] in go (bit_cases (lane (number c.loop-gate.found.kept) k)));
      state = λ tests group well rising free.
          goes_on g.C.Copies.layout g.C.Copies.sized circuit well rising tests group
          (g.C.Copies.rows c.args.copies) free c.as_slice-stems.result.now c.loop-gate.deltas
          c.loop-gate.waiting
          c.loop-gate.from gate (number c.loop-gate.found.kept) (number c.loop-gate.found.seen)
          c.next_gate.new.waiting c.evaluate_waiting-fresh.new.deltas
          c.evaluate_waiting-fresh.new.waiting (number c.evaluate_waiting-fresh.result)
          (number c.follow_on-found.result.kept) (number c.follow_on-found.result.seen)
          (last.state tests group well rising free) c.in-Some.ensures.least waits
          c.in-Some.ensures.some.1 ev on.seen on.narrow;
    }

pub clear-requires-clause-within : goal.clear-requires-clause-within
clear-requires-clause-within g c =
    let last = c.loop-gate.invariant in
    let room = c.requires.room.gates in
    let same = last.waiting in
    let was = c.begin_stems-begun.ensures.room.1 in
    let le = last.within in
    let still = ap length c.in_default.ensures.none.0 in
    omega (arith, room, same, was, le, still)

pub clear-requires-clause-low : goal.clear-requires-clause-low
clear-requires-clause-low g c =
    let w = c.requires.free in
    subst (λ a. (place : ℕ) → slice_index_or a place 0 ≢ 0 → c.loop-gate.from ≤ place)
    (sym c.in_default.ensures.none.0)
    (c.loop-gate.invariant.state w.0 w.1 c.requires.circuit.well_formed
    c.signals-signals.ensures.rising w.2).not_below

pub returns-clause-detected : goal.returns-clause-detected
returns-clause-detected g c = λ tests group free.
    let last = c.loop-gate.invariant in
    subst (λ slots. TellsPack g.G.Goal.ALL_LANES g.C.Copies.layout c.args.circuit.now.arranged tests
    group slots c.args.followed.now (number c.loop-gate.found.seen)) c.as_slice-stems.ensures.value
    (told g.C.Copies.layout g.C.Copies.sized c.args.circuit.now.arranged
    c.requires.circuit.well_formed c.signals-signals.ensures.rising tests group
    (g.C.Copies.rows c.args.copies) free c.as_slice-stems.result.now c.args.followed.now
    c.loop-gate.deltas c.loop-gate.waiting c.loop-gate.from (number c.begin_stems-begun.result.kept)
    (number c.loop-gate.found.kept) (number c.loop-gate.found.seen)
    (last.state tests group c.requires.circuit.well_formed c.signals-signals.ensures.rising
    free) (stem_low g.C.Copies.layout c.args.circuit.now.arranged c.as_slice-stems.result.now
    (subst (λ xs. All (λ slot. slot.stem < length (names c.args.circuit.now.arranged)) xs)
    (sym c.as_slice-stems.ensures.value) c.requires.slots.signals))
    c.begin_stems-begun.ensures.started.all g.G.Goal.ALL_LANES last.settled
    c.in_default.ensures.none.1)

pub returns-clause-room : goal.returns-clause-room
returns-clause-room g c =
    let last = c.loop-gate.invariant in
    let was = c.begin_stems-begun.ensures.room in (
      c.clear-2.ensures.room ∙ (last.deltas ∙ was.0),
      c.clear.ensures.room ∙ (ap length c.in_default.ensures.none.0 ∙ (last.waiting ∙ was.1)),
    )
