use Rattle.std.proofs.Common.{◌≡◌, ◌≢◌, ◌≤◌, ℕ, ◌+◌, ◌∙◌, List, ap, arith, length, subst, sym}
use Rattle.std.{specs.Prelude.{slice_index_or, ◌==◌}, proofs.lemmas.List.length-set}
use Rattle.fault_model.specs.{Fault.Fault, Solution.Test}
use Rattle.event_queue.proofs.Public.{index_zero}
use Rattle.block_sim.specs.{PropagationState.IsTaken, Moments.{Case, Spreads, moment}}
use Rattle.block_sim.specs.Propagation.{IsFirstChange, IsSettled}
use Rattle.block_sim.proofs.{EndOfPropagation.shown_unchanged, PendingGates.count_at_most}
use Rattle.block_sim.proofs.Moments.{large_none, leads_none, leads_on, leads_cleared, leads_higher}
use Rattle.block_sim.proofs.Moments.{leads_taken, place_within, taken_behind, taken_now}
use Rattle.block_sim.proofs.WholePropagations.{HasEnded, begins, has_ended}
use Rattle.block_sim.proofs.propagation.propagate.Goals.{In-Some, After-clear-2}
use Rattle.block_sim.proofs.propagation.propagate.Goals as goal

pub returns-then-diff-eq0-clause-shown : goal.returns-then-diff-eq0-clause-shown
returns-then-diff-eq0-clause-shown c = λ tests group f first.
    let overlay = c.args.changes.now.overlay in
    shown_unchanged c.args.view.circuit.now.arranged tests group f c.args.view.good.now
    c.args.view.lanes overlay c.args.start c.args.diff (IsSettled c.args.extent 0)
    c.requires.view.circuit.well_formed (λ t. index_zero overlay t c.requires.clear.words) (omega (
      arith,
      c.requires.start,
      c.requires.room.overlay,
    )) c.if-diff-eq0.true first

pub returns-then-diff-eq0-clause-counted : goal.returns-then-diff-eq0-clause-counted
returns-then-diff-eq0-clause-counted c = λ tests group f gates first sized all.
    let few = count_at_most (λ g. g == c.args.start) gates in omega (arith, few)

pub loop-gate-init : goal.loop-gate-init
loop-gate-init c = record {
  room = large_none c.change-seen.new.changes;
  settled = λ k lt in_lanes out. c.followed-kept.ensures.rest k lt in_lanes out;
  leads = leads_none c.args.view.circuit.now.arranged c.args.view.good.now c.args.view.lanes _;
  within = (let lt = c.requires.start in omega (arith, lt));
}

pub next_gate-requires-clause-low : goal.next_gate-requires-clause-low
next_gate-requires-clause-low c =
    let w = c.requires.first in
    let begin = begins c.args.view.circuit.now.arranged c.args.view.good.now c.args.view.lanes
    c.args.changes.now c.change-seen.new.changes c.args.start c.args.diff c.followed-kept.result
    c.change-seen.result c.requires.view.circuit.well_formed c.signals-signals.ensures.rising
    c.requires.room c.requires.clear c.requires.start c.change-seen.ensures.changed
    c.change-seen.ensures.scheduled c.if-diff-eq0.false c.change-seen.ensures.some
    c.requires.inside c.followed-kept.ensures.within w.0 w.1 w.2 w.3 in
    (c.loop-gate.invariant.leads.spreading begin.0 begin.1).not_below

-- what is true where a gate was taken, in the case that the caller has in mind
spreads : (c : In-Some) → (case : Case c.args.view.circuit.now.arranged)
    × Spreads c.args.view.circuit.now.arranged c.args.view.good.now c.args.view.lanes case
    (moment c.change-seen.new.changes c.args.start c.followed-kept.result c.change-seen.result)
spreads c =
    let w = c.requires.first in
    let begin = begins c.args.view.circuit.now.arranged c.args.view.good.now c.args.view.lanes
    c.args.changes.now c.change-seen.new.changes c.args.start c.args.diff c.followed-kept.result
    c.change-seen.result c.requires.view.circuit.well_formed c.signals-signals.ensures.rising
    c.requires.room c.requires.clear c.requires.start c.change-seen.ensures.changed
    c.change-seen.ensures.scheduled c.if-diff-eq0.false c.change-seen.ensures.some
    c.requires.inside c.followed-kept.ensures.within w.0 w.1 w.2 w.3 in
    (begin.0, begin.1)

-- the gate waited, so that it lies in the circuit and behind the place
gate_taken : (c : In-Some) → IsTaken c.args.view.circuit.now.arranged (record {
  overlay = c.loop-gate.changes.overlay;
  waiting = c.next_gate.new.waiting;
  evaluations = c.loop-gate.changes.evaluations;
}) c.in-Some.gate
gate_taken c =
    let s = spreads c in
    taken_now c.args.view.circuit.now.arranged c.args.view.good.now c.args.view.lanes
    c.requires.view.circuit.well_formed s.0 c.loop-gate.changes.waiting c.loop-gate.from
    c.loop-gate.found.followed c.loop-gate.found.detected c.in-Some.gate _
    (c.loop-gate.invariant.leads.spreading s.0 s.1)
    (place_within c.loop-gate.changes.waiting c.in-Some.gate
    (let one = c.in-Some.ensures.some.0 in λ e. omega (arith, one, e)))
    c.in-Some.ensures.some.0 c.in-Some.ensures.some.1

from_behind : (c : In-Some) → c.loop-gate.from ≤ c.in-Some.gate
from_behind c =
    let s = spreads c in
    (c.loop-gate.invariant.leads.spreading s.0 s.1).not_below c.in-Some.gate
    (let one = c.in-Some.ensures.some.0 in λ e. omega (arith, one, e))

pub follow_gate-found-requires-clause-taken : goal.follow_gate-found-requires-clause-taken
follow_gate-found-requires-clause-taken c =
    gate_taken (goal.at.follow_gate-found-requires-clause-taken c).In-Some

pub overflow_add-from : goal.overflow_add-from
overflow_add-from c =
    let lt = (gate_taken (goal.at.overflow_add-from c).In-Some).within in
    let count = c.signals-signals.ensures.count in
    let small = c.signals-signals.type_inv in
    omega (arith, lt, count, small)

pub loop-gate-smaller : goal.loop-gate-smaller
loop-gate-smaller c =
    let lt = (gate_taken (goal.at.loop-gate-smaller c).In-Some).within in
    let le = from_behind (goal.at.loop-gate-smaller c).In-Some in
    omega (arith, lt, le)

pub loop-gate-preserved : goal.loop-gate-preserved
loop-gate-preserved c =
    let at = (goal.at.loop-gate-preserved c).In-Some in
    let circuit = c.args.view.circuit.now.arranged in
    let good = c.args.view.good.now in
    let lanes = c.args.view.lanes in
    let m = c.loop-gate.changes in
    let n = c.follow_gate-found.new.changes in
    let gate = c.in-Some.gate in
    let kept = c.loop-gate.found.followed in
    let seen = c.loop-gate.found.detected in
    let last = c.loop-gate.invariant in
    let next = c.follow_gate-found.ensures in
    let s = spreads at in
    let taken = gate_taken at in
    let to_gate = leads_on circuit good lanes _ _ _ last.leads (leads_on circuit good lanes _ _ _
    (leads_higher circuit good lanes m.overlay m.waiting m.evaluations c.loop-gate.from gate kept
    seen (from_behind at) c.in-Some.ensures.least)
    (leads_taken circuit good lanes m.overlay m.waiting c.next_gate.new.waiting m.evaluations gate
    kept seen gate _ c.in-Some.ensures.some.1 c.in-Some.ensures.some.0 next.leads)) in
    record {
      room = record {
        overlay = next.room.overlay ∙ last.room.overlay;
        gates = next.room.gates ∙ (ap length c.in-Some.ensures.some.1
            ∙ (length-set m.waiting gate 0 ∙ last.room.gates));
      };
      settled = next.settled last.settled;
      leads = leads_on circuit good lanes _ _ _ to_gate
          (leads_higher circuit good lanes n.overlay n.waiting n.evaluations gate (gate + 1)
          c.follow_gate-found.result.followed c.follow_gate-found.result.detected (omega arith)
          (taken_behind circuit good lanes s.0
          (moment n gate c.follow_gate-found.result.followed c.follow_gate-found.result.detected)
          (to_gate.spreading s.0 s.1) next.idle));
      within = (let lt = taken.within in omega (arith, lt));
    }

pub clear-requires-clause-low : goal.clear-requires-clause-low
clear-requires-clause-low c =
    let w = c.requires.first in
    let begin = begins c.args.view.circuit.now.arranged c.args.view.good.now c.args.view.lanes
    c.args.changes.now c.change-seen.new.changes c.args.start c.args.diff c.followed-kept.result
    c.change-seen.result c.requires.view.circuit.well_formed c.signals-signals.ensures.rising
    c.requires.room c.requires.clear c.requires.start c.change-seen.ensures.changed
    c.change-seen.ensures.scheduled c.if-diff-eq0.false c.change-seen.ensures.some
    c.requires.inside c.followed-kept.ensures.within w.0 w.1 w.2 w.3 in
    subst (λ l. (place : ℕ) → slice_index_or l place 0 ≢ 0 → c.loop-gate.from ≤ place)
    (sym c.in_default.ensures.none.0)
    (c.loop-gate.invariant.leads.spreading begin.0 begin.1).not_below

-- where the loop stops, whatever the faults are
ended : (c : After-clear-2) (tests : List Test) (group : ℕ) (f : ℕ → Fault)
    → IsFirstChange c.args.view.circuit.now.arranged tests group f c.args.view.good.now
    c.args.view.lanes c.args.changes.now.overlay c.args.start c.args.diff
    → HasEnded c.args.view.circuit.now.arranged tests group f c.args.view.good.now
    c.args.view.lanes c.args.changes.now (record {
      overlay = c.loop-gate.changes.overlay;
      waiting = c.clear.new.self;
      evaluations = c.loop-gate.changes.evaluations;
    }) c.args.start c.loop-gate.found.detected (IsSettled c.args.extent c.loop-gate.found.detected)
ended c tests group f first =
    let circuit = c.args.view.circuit.now.arranged in
    let good = c.args.view.good.now in
    let lanes = c.args.view.lanes in
    let m = c.loop-gate.changes in
    let idle : (g : ℕ) → slice_index_or c.clear.new.self g 0 ≡ 0 =
    λ g. index_zero c.clear.new.self g c.clear.ensures.clear in
    has_ended circuit good lanes c.args.changes.now c.change-seen.new.changes c.args.start
    c.args.diff c.followed-kept.result c.change-seen.result
    c.requires.view.circuit.well_formed c.signals-signals.ensures.rising
    c.requires.room c.requires.clear c.requires.start c.change-seen.ensures.changed
    c.change-seen.ensures.scheduled c.if-diff-eq0.false c.change-seen.ensures.some
    c.requires.inside c.followed-kept.ensures.within tests group f first (record {
      overlay = m.overlay;
      waiting = c.clear.new.self;
      evaluations = m.evaluations;
    }) c.loop-gate.from c.loop-gate.found.followed
    c.loop-gate.found.detected (IsSettled c.args.extent c.loop-gate.found.detected)
    c.change-seen.ensures.evaluations c.change-seen.ensures.shown
    (leads_on circuit good lanes _ _ _ c.loop-gate.invariant.leads
    (leads_cleared circuit good lanes m.overlay m.waiting c.clear.new.self m.evaluations
    c.loop-gate.from c.loop-gate.found.followed c.loop-gate.found.detected idle
    c.in_default.ensures.none.1)) c.loop-gate.invariant.settled idle

pub returns-clause-shown : goal.returns-clause-shown
returns-clause-shown c = λ tests group f first. (ended c tests group f first).shown

pub returns-clause-counted : goal.returns-clause-counted
returns-clause-counted c = λ tests group f gates first sized all.
    (ended c tests group f first).counted gates sized all
