-- An event-driven simulation from the first change of a fault to its end.
use Rattle.std.proofs.Common.{◌≡◌, ◌≢◌, ◌<◌, ◌≤◌, ℕ, ◌+◌, true, false, List, length, set, arith}
use Rattle.std.specs.{Prelude.{◌==◌, count_by, slice_index_or}, Bool.Decides}
use Rattle.bench_net.specs.{Statement.Statement, Scan.names, Circuit.IsWellFormed}
use Rattle.fault_model.specs.{Fault.Fault, Solution.Test}
use Rattle.block_sim.specs.declared.propagation_state.PropagationState.{PropagationState}
use Rattle.block_sim.specs.{ActiveGates.{AreInGroup, HasActiveIn}, Events.AreScheduled}
use Rattle.block_sim.specs.PropagationState.{HasRoomFor, IsClear}
use Rattle.block_sim.specs.Moments.{Case, Leads, Spreads, moment}
use Rattle.block_sim.specs.Propagation.{AreShown, IsFirstChange, IsPropagating}
use Rattle.block_sim.proofs.EndOfPropagation.{active_touched, shown_from}
use Rattle.block_sim.proofs.Moments.{case_of, first_left, first_seen, first_spreads}
use Rattle.flat_circuit.specs.{Readers.{IsObserved, IsRising}, Words.lane}

-- no gate waits any more, the seen lanes are shown, and the evaluated gates were active
pub record HasEnded (c : List Statement) (tests : List Test) (group : ℕ) (f : ℕ → Fault)
    (good : List ℕ) (lanes : ℕ) (before now : PropagationState) (start seen : ℕ) (settled : ℕ
    → Type 0) : Type 0 where
  pub idle : (s : ℕ) → slice_index_or now.waiting s 0 ≡ 0
  pub shown : AreShown c tests group f good lanes settled seen
  pub counted : (gates : List ℕ) → AreInGroup tests group lanes
      → HasActiveIn c tests group lanes f gates
      → now.evaluations + count_by (λ g. g == start) gates ≤ before.evaluations + length gates

module _ (c : List Statement) (good : List ℕ) (lanes : ℕ) (before after : PropagationState)
    (start diff kept seen : ℕ) (well : IsWellFormed c) (rising : IsRising c)
    (room : HasRoomFor c before) (clear : IsClear before) (within : start < length (names c))
    (changed : after.overlay ≡ set before.overlay start diff)
    (scheduled : AreScheduled c start before.waiting after.waiting)
    (differs : diff ≢ 0) (a_lane : (k : ℕ) × (k < 128) × (lane diff k ≡ true))
    (in_lanes : (k : ℕ) → k < 128 → lane diff k ≡ true → lane lanes k ≡ true)
    (narrow : (k : ℕ) → k < 128 → lane kept k ≡ true → lane lanes k ≡ true) where
  module _ (tests : List Test) (group : ℕ) (f : ℕ → Fault)
      (first : IsFirstChange c tests group f good lanes before.overlay start diff) where
    abbrev case : Case c
    case = case_of c tests group f good lanes before.overlay start diff first rising

    spreads_first : Spreads c good lanes case (moment after start kept seen)
    spreads_first = first_spreads c tests group f good lanes before after start diff well first
        rising clear scheduled kept seen
        changed (omega (arith, within, room.overlay)) differs a_lane in_lanes narrow

    pub begins : (case : Case c) × Spreads c good lanes case (moment after start kept seen)
    begins = (case, spreads_first)

    pub has_ended : (now : PropagationState) (level mask detected : ℕ) (settled : ℕ → Type 0)
        → after.evaluations ≡ before.evaluations
        → ((k : ℕ) → k < 128 → Decides (lane seen k) (IsObserved c start × (lane diff k ≡ true)))
        → Leads c good lanes (moment after start kept seen) (moment now level mask detected)
        → ((k : ℕ) → k < 128 → lane lanes k ≡ true → lane mask k ≡ false → settled k)
        → ((s : ℕ) → slice_index_or now.waiting s 0 ≡ 0)
        → HasEnded c tests group f good lanes before now start detected settled
    has_ended now level mask detected settled same shown leads out idle =
        let spreads : IsPropagating c tests group f good lanes (λ s. s) start mask now.overlay
        now.waiting level = leads.spreading case spreads_first in
        let are = leads.seen (first_seen c lanes before after start diff seen kept clear changed
        (omega (arith, within, room.overlay)) shown narrow) in
        record {
          idle = idle;
          shown = shown_from c tests group f good lanes (λ s. s) start mask now.overlay now.waiting
              level well spreads settled detected rising idle first.unobserved are out;
          counted = λ gates sized all.
              let touched = active_touched c tests group f good lanes (λ s. s) start mask
              now.overlay now.waiting level well spreads gates first.words sized first.elsewhere
              rising all in
              let less = leads.counted case gates spreads_first touched in
              let few = first_left c tests group f good lanes before after start diff well first
              rising clear scheduled kept seen gates in
              omega (arith, less, few, same);
        }
