use Rattle.std.proofs.Common.{◌≡◌, ◌≢◌, ◌<◌, ◌≤◌, ◌+◌, ◌⊎◌, ◌∙◌, ℕ, ap, arith, inl, inr, length}
use Rattle.std.proofs.{Common.{set, refl, List, [], ◌∷◌, ◌++◌, subst, sym}, lemmas.List.length-set}
use Rattle.std.specs.Prelude.{All, Contains, slice_index_or}
use Rattle.std.proofs.lemmas.List.Elements.{All-append}
use Rattle.bench_net.specs.Scan.{names}
use Rattle.event_queue.proofs.Public.{index_zero}
use Rattle.fault_model.specs.declared.Line.TheVariants as line
use Rattle.flat_circuit.specs.Stuck.{stuck_fault}
use Rattle.blocking_pins.specs.Effects.{CanChange, IsSpreading, IsTouched, IsVisited}
use Rattle.blocking_pins.proofs.Spreading.{spread_begin, spread_faulty, spread_nowhere}
use Rattle.blocking_pins.proofs.Spreading.{spread_touched, start_within, visited_on}
use Rattle.blocking_pins.proofs.effect.spread.Goals.{In-Some, In-Some-take}
use Rattle.blocking_pins.proofs.effect.spread.Goals as goal

pub returns-in_default-clause-faulty : goal.returns-in_default-clause-faulty
returns-in_default-clause-faulty c =
    spread_nowhere c.args.view.circuit.now.arranged (stuck_fault c.args.fault)
    c.args.view.good.now c.args.view.lanes c.requires.view.circuit.well_formed
    c.signals-signals.ensures.rising c.args.effect.now.overlay
    (λ t. index_zero c.args.effect.now.overlay t c.requires.same) (λ s. record {
      stem = (c.in_default.ensures.none s 0).0;
      pin = λ pin. (c.in_default.ensures.none s pin).1;
    })

pub returns-in_default-clause-touched : goal.returns-in_default-clause-touched
returns-in_default-clause-touched c = λ g is. go g is
  where
    go : (g : ℕ) → IsTouched c.args.view.circuit.now.arranged (stuck_fault c.args.fault)
        c.args.effect.now.overlay g → Contains c.args.effect.now.reached.items g
    go g (inl pin) = absurd ((c.in_default.ensures.none g pin.0).1 pin.1)
    go g (inr w) = absurd (w.2 (index_zero c.args.effect.now.overlay w.0 c.requires.same))

-- the signal at which the effect starts
begins : (c : In-Some) → (c.in-Some.start < length (names c.args.view.circuit.now.arranged))
    × CanChange c.args.view.circuit.now.arranged (stuck_fault c.args.fault) c.in-Some.start
begins c = start_within c.args.view.circuit.now.arranged (stuck_fault c.args.fault)
    c.in-Some.start c.requires.view.circuit.well_formed c.requires.listed c.in-Some.ensures.some

pub add-requires : goal.add-requires
add-requires c =
    let lt = (begins (goal.at.add-requires c).In-Some).0 in
    omega (arith, lt, c.requires.waiting)

pub loop-place-init : goal.loop-place-init
loop-place-init c =
    let circuit = c.args.view.circuit.now.arranged in
    let own = begins (goal.at.loop-place-init c).In-Some in
    let lt = own.0 in
    let room : c.in-Some.start < length c.args.effect.now.waiting = omega (
      arith,
      lt,
      c.requires.waiting,
    ) in
    let begin = spread_begin circuit (stuck_fault c.args.fault) c.args.view.good.now
    c.args.view.lanes c.requires.view.circuit.well_formed c.signals-signals.ensures.rising
    c.args.effect.now.overlay (λ t. index_zero c.args.effect.now.overlay t c.requires.same)
    c.args.effect.now.waiting (λ t. index_zero c.args.effect.now.waiting t c.requires.idle)
    c.in-Some.start c.in-Some.ensures.some own.0 own.1 room in
    record {
      spreading = subst (λ l. IsSpreading circuit (stuck_fault c.args.fault) c.args.view.good.now
          c.args.view.lanes c.args.effect.now.overlay l c.args.effect.now.reached.items
          c.in-Some.start) (sym c.add.ensures)
          (subst (λ l. IsSpreading circuit (stuck_fault c.args.fault) c.args.view.good.now
          c.args.view.lanes c.args.effect.now.overlay
          (set c.args.effect.now.waiting c.in-Some.start 1) l c.in-Some.start)
          (sym c.requires.none) begin);
      overlay = refl;
      waiting = refl;
      within = omega (arith, lt);
    }

pub loop-place-preserved : goal.loop-place-preserved
loop-place-preserved c =
    let circuit = c.args.view.circuit.now.arranged in
    let place = c.in-Some-take.place in
    let m = c.loop-place.effect in
    let n = c.visit.new.effect in
    let h = c.loop-place.invariant.spreading in
    let taken = c.in-Some-take.ensures.some in
    let waits : slice_index_or m.waiting place 0 ≢ 0 =
    (let one = taken.0 in λ e. omega (arith, one, e)) in
    let lt = h.within place waits in
    let step : IsVisited circuit (stuck_fault c.args.fault) c.args.view.good.now
    c.args.view.lanes place m.overlay (set m.waiting place 0) n.overlay n.waiting =
    subst (λ l. IsVisited circuit (stuck_fault c.args.fault) c.args.view.good.now
    c.args.view.lanes place m.overlay l n.overlay n.waiting) taken.1
    c.in_ok-visit.ensures.visited in
    let long : length (set m.waiting place 0) ≡ length m.waiting = length-set m.waiting place 0 in
    let start_room : length c.add.new.self ≡ length c.args.effect.now.waiting =
    ap length c.add.ensures ∙ length-set c.args.effect.now.waiting c.in-Some.start 1 in
    let in_at : place < length m.waiting = omega (
      arith,
      lt,
      c.loop-place.invariant.waiting,
      start_room,
      c.requires.waiting,
    ) in
    let in_delta : place < length m.overlay = omega (
      arith,
      lt,
      c.loop-place.invariant.overlay,
      c.requires.overlay,
    ) in
    let all : All (λ s. s < length (names circuit)) (m.reached.items ++ place ∷ []) =
    All-append (λ s. s < length (names circuit)) m.reached.items (place ∷ []) h.listed
    (λ k d below. one_within k d below lt) in
    record {
      spreading = subst (λ l. IsSpreading circuit (stuck_fault c.args.fault) c.args.view.good.now
          c.args.view.lanes n.overlay n.waiting l (place + 1)) (sym c.in_ok-visit.ensures.reached)
          (visited_on circuit (stuck_fault c.args.fault) c.args.view.good.now c.args.view.lanes
          c.requires.view.circuit.well_formed c.signals-signals.ensures.rising m.overlay m.waiting
          m.reached.items c.loop-place.from place h waits in_at in_delta
          c.in-Some-take.ensures.least n.overlay n.waiting step all);
      overlay = ap length step.changed ∙ (length-set m.overlay place _
          ∙ c.loop-place.invariant.overlay);
      waiting = step.room ∙ (long ∙ c.loop-place.invariant.waiting);
      within = omega (arith, lt);
    }
  where
    one_within : {n : ℕ} {place : ℕ} (k d : ℕ) → k < length (place ∷ []) → place < n
        → slice_index_or (place ∷ []) k d < n
    one_within {n} {place} k d below lt =
        let first : k ≡ 0 = omega (arith, below) in
        subst (λ x. slice_index_or (place ∷ []) x d < n) (sym first) lt

pub returns-clause-faulty : goal.returns-clause-faulty
returns-clause-faulty c = spread_faulty c.args.view.circuit.now.arranged (stuck_fault c.args.fault)
    c.args.view.good.now c.args.view.lanes c.requires.view.circuit.well_formed
    c.signals-signals.ensures.rising c.loop-place.effect.overlay c.loop-place.effect.waiting
    c.loop-place.effect.reached.items c.loop-place.from c.loop-place.invariant.spreading
    (λ s. index_zero c.loop-place.effect.waiting s c.in_default-take.ensures.none.1)

pub returns-clause-touched : goal.returns-clause-touched
returns-clause-touched c =
    spread_touched c.args.view.circuit.now.arranged (stuck_fault c.args.fault)
    c.args.view.good.now c.args.view.lanes c.requires.view.circuit.well_formed
    c.signals-signals.ensures.rising c.loop-place.effect.overlay c.loop-place.effect.waiting
    c.loop-place.effect.reached.items c.loop-place.from c.loop-place.invariant.spreading
    (λ s. index_zero c.loop-place.effect.waiting s c.in_default-take.ensures.none.1)
