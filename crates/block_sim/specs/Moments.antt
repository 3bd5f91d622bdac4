-- The moments of an event-driven simulation, and the step from one to a later one.
use Rattle.std.specs.Prelude.{◌≢◌, ℕ, ◌+◌, ◌≤◌, List, slice_index_or, slice_set}
use Rattle.bench_net.specs.Statement.{Statement}
use Rattle.fault_model.specs.Fault.{Fault}
use Rattle.fault_model.specs.Solution.{Test}
use Rattle.block_sim.specs.declared.propagation_state.PropagationState.{PropagationState}
use Rattle.flat_circuit.specs.Readers.{IsRising}
use Rattle.block_sim.specs.Events.{IsElsewhere}
use Rattle.block_sim.specs.Propagation.{IsPropagating, AreSeen, HasTouched, pending_gates}

-- The state of a simulation at a moment: the lanes in which each signal differs; for each gate 0,
-- or another number if it waits; the counted evaluations; the place that it works at; the lanes
-- that are still followed, and the lanes that were seen.
pub record Moment : Type 0 where
  pub delta : List ℕ
  pub at : List ℕ
  pub evaluations : ℕ
  pub level : ℕ
  pub kept : ℕ
  pub seen : ℕ

abbrev pub moment : PropagationState → ℕ → ℕ → ℕ → Moment
moment changes level kept seen = record {
  delta = changes.overlay;
  at = changes.waiting;
  evaluations = changes.evaluations;
  level = level;
  kept = kept;
  seen = seen;
}

-- the same moment with a gate that still waited, before it is taken
abbrev pub not_yet_taken : ℕ → Moment → Moment
not_yet_taken gate m = record {
  delta = m.delta;
  at = slice_set m.at gate 1;
  evaluations = m.evaluations;
  level = m.level;
  kept = m.kept;
  seen = m.seen;
}

-- A case of a simulation: faults that start at a signal, one for each lane, on a group of tests.
-- Each gate comes after the signals that it reads.
pub record Case (c : List Statement) : Type 0 where
  pub tests : List Test
  pub group : ℕ
  pub fault : ℕ → Fault
  pub start : ℕ
  pub elsewhere : (t k : ℕ) → t ≢ start → IsElsewhere (fault k) t
  pub rising : IsRising c

-- the invariant of a case at a moment, for these requested lanes
abbrev pub Spreads : (c : List Statement) → List ℕ → ℕ → Case c → Moment → Type 0
Spreads c good lanes case m = IsPropagating c case.tests case.group case.fault good lanes
    (λ s. s) case.start m.kept m.delta m.at m.level

-- the number of the gates that are still pending at a moment of a case
abbrev pub left : (c : List Statement) → Case c → Moment → List ℕ → ℕ
left c case m gates = pending_gates (λ s. s) m.at m.level gates

-- From one moment to a later one: the invariant of each case stays true. Take a list with each gate
-- that reads a signal that differs. At most as many gates were evaluated as stopped being pending
-- in the list.
pub record Leads (c : List Statement) (good : List ℕ) (lanes : ℕ) (m n : Moment) : Type 0 where
  pub spreading : (case : Case c) → Spreads c good lanes case m → Spreads c good lanes case n
  pub counted : (case : Case c) (gates : List ℕ) → Spreads c good lanes case m
      → HasTouched c n.delta gates
      → n.evaluations + left c case n gates ≤ m.evaluations + left c case m gates
  pub seen : AreSeen c m.delta m.kept m.seen → AreSeen c n.delta n.kept n.seen
  pub more : (s : ℕ) → slice_index_or m.delta s 0 ≢ 0 → slice_index_or n.delta s 0 ≢ 0
  pub grown : m.evaluations ≤ n.evaluations
