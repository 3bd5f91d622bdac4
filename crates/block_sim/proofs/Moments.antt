-- The step from one moment of an event-driven simulation to a later one.
use Rattle.std.proofs.Common.{◌≡◌, ◌≢◌, ◌<◌, ◌≤◌, ◌⊎◌, ℕ, ◌+◌, refl, sym, ◌∙◌, ap, subst, true}
use Rattle.std.{proofs.Common.{List, length, map, arith, set, inl, inr}, specs.Prelude.◌==◌}
use Rattle.std.specs.Prelude.{Some, None, slice_index_or, slice_set, bit_or, bit_xor, count_by}
use Rattle.std.{specs.Bool.Decides, proofs.lemmas.Bool.cases_lt}
use Rattle.std.proofs.lemmas.List.{length-set, set-set, set-get_or, get_or-set_same}
use Rattle.std.proofs.lemmas.List.{get_or-set_other, get_or_past}
use Rattle.bench_net.specs.{declared.Kind.Kind, Statement.Statement, Scan.{gate_of, signal}}
use Rattle.bench_net.specs.Circuit.{IsWellFormed}
use Rattle.fault_model.specs.{Fault.Fault, Solution.{Test, value}}
use Rattle.event_queue.proofs.Public.{index_zero}
use Rattle.block_sim.specs.declared.propagation_state.PropagationState.{PropagationState}
use Rattle.block_sim.specs.PropagationState.{HasRoomFor, IsAsLarge, IsClear, IsTaken}
use Rattle.block_sim.{specs.Events.AreScheduled, proofs.FirstChange.{spreading_first, count_first}}
use Rattle.block_sim.specs.Moments.{Case, Leads, Moment, Spreads, left, moment}
use Rattle.block_sim.specs.Propagation.{IsFirstChange, IsPropagating, AreSeen, pending_gates}
use Rattle.block_sim.proofs.PendingGates.{pending_cleared, pending_higher}
use Rattle.block_sim.proofs.{SignalEquations.gate_named, SeenLanes.{from_none, with_none}}
use Rattle.block_sim.proofs.SeenLanes.{seen_changed, seen_first, seen_like, seen_narrower}
use Rattle.block_sim.proofs.PropagationSteps.{pending_changed, pending_same, evaluated_changed}
use Rattle.block_sim.proofs.PropagationSteps.{evaluated_same, level_done, spreading_cleared}
use Rattle.block_sim.proofs.PropagationSteps.{spreading_narrower}
use Rattle.flat_circuit.specs.Readers.{IsLive, IsObserved, IsRising, Reads}
use Rattle.flat_circuit.specs.Words.{lane, pin_bits}
use Rattle.flat_circuit.proofs.Public.{no_loop, reader_within, restored}

-- a moment, by all its parts
abbrev pub moment_of : List ℕ → List ℕ → ℕ → ℕ → ℕ → ℕ → Moment
moment_of delta at evaluations level kept seen = record {
  delta = delta;
  at = at;
  evaluations = evaluations;
  level = level;
  kept = kept;
  seen = seen;
}

module _ (c : List Statement) (good : List ℕ) (lanes : ℕ) where
  pub leads_none : (m : Moment) → Leads c good lanes m m
  leads_none m = record {
    spreading = λ case h. h;
    counted = λ case gates h all. omega arith;
    seen = λ h. h;
    more = λ s ne. ne;
    grown = omega arith;
  }

  pub leads_on : (l m n : Moment) → Leads c good lanes l m → Leads c good lanes m n
      → Leads c good lanes l n
  leads_on l m n h k = record {
    spreading = λ case s. k.spreading case (h.spreading case s);
    counted = λ case gates s all.
        let first = h.counted case gates s (λ g r reads ne. all g r reads (k.more r ne)) in
        let second = k.counted case gates (h.spreading case s) all in
        omega (arith, first, second);
    seen = λ s. k.seen (h.seen s);
    more = λ r ne. k.more r (h.more r ne);
    grown = (let a = h.grown in let b = k.grown in omega (arith, a, b));
  }

  -- ---- fewer lanes are followed
  pub leads_narrower : (delta at : List ℕ) (evaluations level kept seen narrow : ℕ)
      → ((k : ℕ) → k < 128 → lane narrow k ≡ true → lane kept k ≡ true)
      → Leads c good lanes (moment_of delta at evaluations level kept seen)
      (moment_of delta at evaluations level narrow seen)
  leads_narrower delta at evaluations level kept seen narrow within = record {
    spreading = λ case h. spreading_narrower c case.tests case.group case.fault good lanes (λ s. s)
        case.start kept delta at level narrow within h;
    counted = λ case gates h all. omega arith;
    seen = seen_narrower c delta kept seen narrow within;
    more = λ s ne. ne;
    grown = omega arith;
  }

  -- ---- no gate waits before a place
  pub leads_higher : (delta at : List ℕ) (evaluations level next kept seen : ℕ) → level ≤ next
      → ((g : ℕ) → slice_index_or at g 0 ≢ 0 → next ≤ g)
      → Leads c good lanes (moment_of delta at evaluations level kept seen)
      (moment_of delta at evaluations next kept seen)
  leads_higher delta at evaluations level next kept seen le above = record {
    spreading = λ case h. level_done c case.tests case.group case.fault good lanes (λ s. s)
        case.start kept delta at level next le above h;
    counted = λ case gates h all. let less =
        pending_higher (λ s. s) at level next gates le in omega (arith, less);
    seen = λ h. h;
    more = λ s ne. ne;
    grown = omega arith;
  }

  -- ---- a gate is taken
  pub leads_taken : (delta at taken : List ℕ) (evaluations level kept seen gate : ℕ) (n : Moment)
      → taken ≡ set at gate 0 → slice_index_or at gate 0 ≡ 1
      → Leads c good lanes (moment_of delta (slice_set taken gate 1) evaluations level
      kept seen) n → Leads c good lanes (moment_of delta at evaluations level kept seen) n
  leads_taken delta at taken evaluations level kept seen gate n is waits h =
      subst (λ x. Leads c good lanes (moment_of delta x evaluations level kept seen) n) back h
    where
      back : slice_set taken gate 1 ≡ at
      back = ap (λ x. set x gate 1) is
          ∙ (set-set at gate 0 1 ∙ (ap (set at gate) (sym waits) ∙ set-get_or at gate 0))

  -- ---- no lane is followed or no gate waits, and the waiting gates are cleared
  pub leads_cleared : (delta at idle : List ℕ) (evaluations level kept seen : ℕ)
      → ((g : ℕ) → slice_index_or idle g 0 ≡ 0) → (kept ≡ 0) ⊎ ((g : ℕ) → slice_index_or at g 0 ≡ 0)
      → Leads c good lanes (moment_of delta at evaluations level kept seen)
      (moment_of delta idle evaluations level kept seen)
  leads_cleared delta at idle evaluations level kept seen clear stop = record {
    spreading = λ case h.
        spreading_cleared c case.tests case.group case.fault good lanes (λ s. s) case.start kept
        delta at idle level clear stop h;
    counted = λ case gates h all.
        let less = pending_cleared (λ s. s) at idle level gates clear in omega (arith, less);
    seen = λ h. h;
    more = λ s ne. ne;
    grown = omega arith;
  }

  -- ---- it is evaluated
  module _ (well : IsWellFormed c) (delta at : List ℕ) (before after kept seen gate : ℕ)
      (in_at : gate < length at) (in_delta : gate < length delta) (waits : slice_index_or at gate 0
      ≡ 0) (grown : before ≤ after) (one : after ≤ before + 1) (kind : Kind) (pins : List ℕ)
      (is : gate_of c gate ≡ Some (kind, pins)) (word : ℕ)
      (valued : (k : ℕ) → k < 128 → lane word k ≡ value kind (pin_bits None gate pins good delta k))
    where
      abbrev taken_at : List ℕ
      taken_at = slice_set at gate 1

      in_taken : gate < length taken_at
      in_taken = omega (arith, in_at, length-set at gate 1)

      taken : slice_index_or taken_at gate 0 ≢ 0
      taken e = let one = get_or-set_same at gate 1 0 in_at in omega (arith, one, e)

      back : slice_set taken_at gate 0 ≡ at
      back = restored at gate 0 waits

      -- its word is unchanged
      pub leads_same : ((k : ℕ) → k < 128 → lane kept k ≡ true
          → lane (slice_index_or good gate 0) k ≡ lane word k)
          → Leads c good lanes (moment_of delta (slice_set at gate 1) before gate kept
          seen) (moment_of delta at after gate kept (bit_or seen 0))
      leads_same same = record {
        spreading = λ case h.
            let lv : ℕ → ℕ = (λ s. s) in
            subst (λ x. IsPropagating c case.tests case.group case.fault good lanes lv case.start
            kept delta x gate) back
            (evaluated_same c case.tests case.group case.fault good lanes lv case.start kept well
            case.rising case.elsewhere
            delta taken_at gate gate h taken refl in_taken in_delta kind pins is word valued same);
        counted = λ case gates h all.
            let lv : ℕ → ℕ = (λ s. s) in
            let less = subst (λ x. pending_gates lv x gate gates + 1 ≤ pending_gates lv taken_at
            gate gates) back
            (pending_same c case.tests case.group case.fault good lanes lv case.start kept well
            case.rising case.elsewhere
            delta taken_at gate gate h taken refl in_taken in_delta kind pins is word valued gates
            all) in
            omega (arith, less, one);
        seen = seen_like c delta kept seen (bit_or seen 0) (with_none seen);
        more = λ s ne. ne;
        grown = grown;
      }

      -- its signal changes, and its readers wait
      pub leads_changed : (diff shown : ℕ) (now new : List ℕ) → slice_index_or delta gate 0 ≡ 0
          → now ≡ set delta gate diff → diff ≢ 0 → (k : ℕ) × (k < 128) × (lane diff k ≡ true)
          → ((k : ℕ) → k < 128 → lane diff k ≡ true → lane kept k ≡ true)
          → ((k : ℕ) → k < 128 → lane kept k ≡ true
          → lane (bit_xor (slice_index_or good gate 0) diff) k ≡ lane word k)
          → AreScheduled c gate at new
          → ((k : ℕ) → k < 128 → Decides (lane shown k) (IsObserved c gate × (lane diff k ≡ true)))
          → Leads c good lanes (moment_of delta (slice_set at gate 1) before gate kept
          seen) (moment_of now new after gate kept (bit_or seen shown))
      leads_changed diff shown now new clear is_now differs a_lane in_kept changed scheduled
          observed = subst (λ x. Leads c good lanes
          (moment_of delta (slice_set at gate 1) before gate
          kept seen) (moment_of x new after gate kept (bit_or seen shown))) (sym is_now) (record {
            spreading = λ case h. evaluated_changed c case.tests case.group case.fault good lanes
                (λ s. s) case.start kept well case.rising case.elsewhere
                delta taken_at gate gate h taken refl in_taken in_delta kind pins is word valued
                diff new differs a_lane in_kept changed scheduled_now;
            counted = λ case gates h all.
                let less = pending_changed c case.tests case.group case.fault good lanes
                (λ s. s) case.start kept well case.rising case.elsewhere
                delta taken_at gate gate h taken refl in_taken in_delta kind pins is word valued
                diff new differs a_lane in_kept changed scheduled_now gates all in
                omega (arith, less, one);
            seen = seen_changed c delta kept seen gate diff shown clear in_delta observed;
            more = more;
            grown = grown;
          })
        where
          scheduled_now : AreScheduled c gate (set taken_at gate 0) new
          scheduled_now = subst (λ b. AreScheduled c gate b new) (sym back) scheduled

          more : (s : ℕ) → slice_index_or delta s 0 ≢ 0
              → slice_index_or (set delta gate diff) s 0 ≢ 0
          more s ne e =
              let other : s ≢ gate = λ same. ne (ap (λ x. slice_index_or delta x 0) same ∙ clear) in
              ne (sym (get_or-set_other delta gate s diff 0 other) ∙ e)

-- ---- the first moment, after the first change of a fault
abbrev pub case_of : (c : List Statement) (tests : List Test) (group : ℕ) (f : ℕ
    → Fault) (good : List ℕ) (lanes : ℕ) (delta : List ℕ) (start diff : ℕ)
    → IsFirstChange c tests group f good lanes delta start diff → IsRising c → Case c
case_of c tests group f good lanes delta start diff first rising = record {
  tests = tests;
  group = group;
  fault = f;
  start = start;
  elsewhere = first.elsewhere;
  rising = rising;
}

module _ (c : List Statement) (tests : List Test) (group : ℕ) (f : ℕ
    → Fault) (good : List ℕ) (lanes : ℕ) (before after : PropagationState) (start diff : ℕ)
    (well : IsWellFormed c)
    (first : IsFirstChange c tests group f good lanes before.overlay start diff)
    (rising : IsRising c) (clear : IsClear before)
    (scheduled : AreScheduled c start before.waiting after.waiting) (kept seen : ℕ) where
  pub first_spreads : after.overlay ≡ set before.overlay start diff → start < length before.overlay
      → diff ≢ 0 → (k : ℕ) × (k < 128) × (lane diff k ≡ true)
      → ((k : ℕ) → k < 128 → lane diff k ≡ true → lane lanes k ≡ true)
      → ((k : ℕ) → k < 128 → lane kept k ≡ true → lane lanes k ≡ true)
      → Spreads c good lanes (case_of c tests group f good lanes before.overlay start diff first
      rising) (moment after start kept seen)
  first_spreads changed within differs a_lane in_lanes narrow =
      spreading_narrower c tests group f good lanes (λ s. s) start lanes after.overlay
      after.waiting start kept narrow
      (subst (λ x. IsPropagating c tests group f good lanes (λ s. s) start lanes x
      after.waiting start) (sym changed)
      (spreading_first c tests group f good lanes (λ s. s) start well
      rising before.overlay before.waiting after.waiting
      (λ t. index_zero before.waiting t clear.gates) scheduled diff first.words
      (λ t. index_zero before.overlay t clear.words) first.elsewhere first.first within differs
      a_lane in_lanes))

  pub first_left : (gates : List ℕ)
      → left c (case_of c tests group f good lanes before.overlay start diff first rising)
      (moment after start kept seen) gates + count_by (λ g. g == start) gates ≤ length gates
  first_left gates = count_first c tests group f good lanes (λ s. s) start well
      rising before.overlay before.waiting after.waiting
      (λ t. index_zero before.waiting t clear.gates) scheduled gates

-- the seen lanes of the first change, and the lanes that are then followed
pub first_seen : (c : List Statement) (lanes : ℕ) (before after : PropagationState)
    (start diff seen kept : ℕ) → IsClear before
    → after.overlay ≡ set before.overlay start diff → start < length before.overlay
    → ((k : ℕ) → k < 128 → Decides (lane seen k) (IsObserved c start × (lane diff k ≡ true)))
    → ((k : ℕ) → k < 128 → lane kept k ≡ true → lane lanes k ≡ true)
    → AreSeen c after.overlay kept seen
first_seen c lanes before after start diff seen kept rest changed within shown narrow =
    seen_narrower c after.overlay lanes seen kept narrow
    (subst (λ x. AreSeen c x lanes seen) (sym changed)
    (seen_like c (set before.overlay start diff) lanes (bit_or 0 seen) seen (from_none seen)
    (seen_changed c before.overlay lanes 0 start diff seen (clear start) within shown
    (seen_first c before.overlay lanes clear))))
  where
    clear : (t : ℕ) → slice_index_or before.overlay t 0 ≡ 0
    clear t = index_zero before.overlay t rest.words

-- a gate that waits, and is taken
pub taken_now : (c : List Statement) (good : List ℕ) (lanes : ℕ) (well : IsWellFormed c)
    (case : Case c) (at : List ℕ) (level kept seen gate : ℕ) (t : PropagationState)
    → Spreads c good lanes case (moment_of t.overlay at t.evaluations level kept seen)
    → gate < length at → slice_index_or at gate 0 ≡ 1 → t.waiting ≡ set at gate 0 → IsTaken c t gate
taken_now c good lanes well case at level kept seen gate t h in_at is taken =
    let waits : slice_index_or at gate 0 ≢ 0 = (λ e. omega (arith, e, is)) in
    let by = h.touched gate waits in
    let r = by.1 in
    record {
      within = reader_within c gate by.0 r;
      driven = (
        (r.kind, map (signal c) r.args),
        gate_named c r.name r.kind r.args gate well r.number r.gate,
      );
      waits = ap (λ x. slice_index_or x gate 0) taken ∙ get_or-set_same at gate 0 0 in_at;
      clear = h.waits_clear gate waits;
    }

-- a waiting gate has a place
pub place_within : (at : List ℕ) (g : ℕ) → slice_index_or at g 0 ≢ 0 → g < length at
place_within at g ne = go (cases_lt g (length at))
  where
    go : (g < length at) ⊎ (length at ≤ g) → g < length at
    go (inl lt) = lt
    go (inr le) = absurd (ne (get_or_past at g 0 le))

-- nor does it wait again because of its own change
pub idle_still : (c : List Statement) (gate : ℕ) (before after : List ℕ) → IsWellFormed c
    → AreScheduled c gate before after → slice_index_or before gate 0 ≡ 0
    → slice_index_or after gate 0 ≡ 0
idle_still c gate before after well scheduled idle = go (scheduled.only gate)
  where
    go : (slice_index_or after gate 0 ≡ slice_index_or before gate 0)
        ⊎ ((Reads c gate gate × IsLive c gate) × (slice_index_or after gate 0 ≢ 0))
        → slice_index_or after gate 0 ≡ 0
    go (inl e) = e ∙ idle
    go (inr w) = absurd (no_loop c gate well w.0.0)

-- once evaluated it does not wait, and the waiting gates lie after it
pub taken_behind : (c : List Statement) (good : List ℕ) (lanes : ℕ) (case : Case c) (m : Moment)
    → Spreads c good lanes case m → slice_index_or m.at m.level 0 ≡ 0
    → (g : ℕ) → slice_index_or m.at g 0 ≢ 0 → m.level + 1 ≤ g
taken_behind c good lanes case m h idle g ne = let le = h.not_below g ne in
    let other : g ≢ m.level = λ e. ne (ap (λ x. slice_index_or m.at x 0) e ∙ idle) in
    omega (arith, le, other)

-- a state is as large as itself
pub large_none : (m : PropagationState) → IsAsLarge m m
large_none m = record { overlay = refl; gates = refl }

-- a state is as large, through one between them
pub large_on : (l m n : PropagationState) → IsAsLarge l m → IsAsLarge m n → IsAsLarge l n
large_on l m n a b = record { overlay = b.overlay ∙ a.overlay; gates = b.gates ∙ a.gates }

pub large_enough : (c : List Statement) (m n : PropagationState) → HasRoomFor c m → IsAsLarge m n
    → HasRoomFor c n
large_enough c m n room large = record {
  overlay = (let a = room.overlay in let b = large.overlay in omega (arith, a, b));
  gates = (let a = room.gates in let b = large.gates in omega (arith, a, b));
}
