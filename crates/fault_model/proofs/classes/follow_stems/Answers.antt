use Rattle.std.proofs.Common.{◌≡◌, ◌<◌, ◌+◌, ◌-◌, ℕ, true, false, List, length, Some, subst, get_or}
use Rattle.std.{proofs.Common.arith, specs.Prelude.slice_get, proofs.lemmas.Option.slice_get-get_or}
use Rattle.bench_net.specs.{Statement.Statement, Level.IsLevelOrder, Scan.names}
use Rattle.list_lemmas.proofs.Places.{place_within}
use Rattle.fault_model.specs.declared.Line.TheVariants as line
use Rattle.fault_model.specs.{declared.Model.Model, Fault.faults}
use Rattle.fault_model.proofs.{ListedFaults.fault_on, NextFaultLevels.in_order_named}
use Rattle.fault_model.proofs.StemClasses.{StemsFrom, stems_kept, stem_next, stems_more, stems_all}
use Rattle.fault_model.proofs.classes.follow_stems.Goals.{After-stem_fault}
use Rattle.fault_model.proofs.classes.follow_stems.Goals.{After-stem_fault-in-loop-place}
use Rattle.fault_model.proofs.classes.follow_stems.Goals as goal

-- the signal before a place of the order
signal_at : (order : List ℕ) (place : ℕ) → 0 < place → place < length order + 1
    → slice_get order (place - 1) ≡ Some (get_or order (place - 1) 0)
signal_at order place some within =
    slice_get-get_or order (place - 1) 0 (omega (arith, some, within))

-- and it is a signal of the circuit
signal_within : (c : List Statement) (order : List ℕ) (place : ℕ) → IsLevelOrder c order
    → 0 < place → place < length order + 1 → get_or order (place - 1) 0 < length (names c)
signal_within c order place is some within =
    let n = in_order_named c order (place - 1) (get_or order (place - 1) 0) is
    (signal_at order place some within) in
    place_within (names c) (get_or order (place - 1) 0) n.0 n.1

-- what is known from a place on is known from the place after the one before it on
turned : (m : Model) (c : List Statement) (order before after : List ℕ) (place : ℕ) → 0 < place
    → StemsFrom m c order place before after → StemsFrom m c order (place - 1 + 1) before after
turned m c order before after place some from =
    let same : place ≡ place - 1 + 1 = omega (arith, some) in
    subst (λ k. StemsFrom m c order k before after) same from

pub stem_fault-requires : goal.stem_fault-requires
stem_fault-requires c =
    let order = c.in_level_order-order.result.now in
    let few : c.loop-place.place < length order + 1 = omega (
      arith,
      c.loop-place.auto.place,
      c.in_level_order-order.ensures.count,
      c.signals-place.ensures.count,
    ) in (
      c.args.circuit.now,
      c.requires.same,
      signal_within c.args.circuit.now order c.loop-place.place c.in_level_order-order.ensures
          (omega arith) few,
    )

pub follow-requires-clause-in_range : goal.follow-requires-clause-in_range
follow-requires-clause-in_range c =
    place_within c.args.list.now.list c.stem_fault.result _ c.stem_fault.ensures

-- the signal that goes next, and the place of its first fault
next_signal : (c : After-stem_fault)
    → slice_get c.in_level_order-order.result.now (c.loop-place.place - 1)
    ≡ Some (get_or c.in_level_order-order.result.now (c.loop-place.place - 1) 0)
next_signal c = signal_at c.in_level_order-order.result.now c.loop-place.place (omega arith)
    (omega (
      arith,
      c.loop-place.auto.place,
      c.in_level_order-order.ensures.count,
      c.signals-place.ensures.count,
    ))

at_zero : (c : After-stem_fault)
    → slice_get (faults c.args.list.now.model c.args.circuit.now) c.stem_fault.result
    ≡ Some (fault_on c.args.list.now.model
    (line.Stem (get_or c.in_level_order-order.result.now (c.loop-place.place - 1) 0)) false)
at_zero c = rw c.requires.same at c.stem_fault.ensures

pub follow-requires-clause-next : goal.follow-requires-clause-next
follow-requires-clause-next c =
    let at = (goal.at.follow-requires-clause-next c).After-stem_fault in
    let circuit = c.args.circuit.now in
    let m = c.args.list.now.model in
    let order = c.in_level_order-order.result.now in
    let place = c.loop-place.place in
    stem_next m circuit order (place - 1) c.args.class_of.now c.loop-place.class_of
    (get_or order (place - 1) 0) c.stem_fault.result false
    c.signals-place.ensures.circuit.well_formed c.in_level_order-order.ensures
    (turned m circuit order c.args.class_of.now c.loop-place.class_of place (omega arith)
    c.loop-place.invariant) (next_signal at) (at_zero at)

pub stem_fault-requires-in-loop-place : goal.stem_fault-requires-in-loop-place
stem_fault-requires-in-loop-place c =
    let order = c.in_level_order-order.result.now in
    let few : c.loop-place.place < length order + 1 = omega (
      arith,
      c.loop-place.auto.place,
      c.in_level_order-order.ensures.count,
      c.signals-place.ensures.count,
    ) in (
      c.args.circuit.now,
      c.requires.same,
      signal_within c.args.circuit.now order c.loop-place.place c.in_level_order-order.ensures
          (omega arith) few,
    )

pub follow-requires-in-loop-place-clause-in_range :
    goal.follow-requires-in-loop-place-clause-in_range
follow-requires-in-loop-place-clause-in_range c =
    place_within c.args.list.now.list c.stem_fault-in-loop-place.result _
    c.stem_fault-in-loop-place.ensures

-- what the table knows after the first fault of the signal, and the place of the second
known_then : (c : After-stem_fault-in-loop-place)
    → StemsFrom c.args.list.now.model c.args.circuit.now c.in_level_order-order.result.now
    c.loop-place.place c.args.class_of.now c.follow.new.class_of
known_then c = stems_kept c.args.list.now.model c.args.circuit.now
    c.in_level_order-order.result.now c.loop-place.place c.args.class_of.now
    c.loop-place.class_of c.follow.new.class_of c.loop-place.invariant c.follow.ensures.kept

at_one : (c : After-stem_fault-in-loop-place)
    → slice_get (faults c.args.list.now.model c.args.circuit.now)
    c.stem_fault-in-loop-place.result ≡ Some (fault_on c.args.list.now.model
    (line.Stem (get_or c.in_level_order-order.result.now (c.loop-place.place - 1) 0)) true)
at_one c = rw c.requires.same at c.stem_fault-in-loop-place.ensures

pub follow-requires-in-loop-place-clause-next : goal.follow-requires-in-loop-place-clause-next
follow-requires-in-loop-place-clause-next c =
    let after = goal.at.follow-requires-in-loop-place-clause-next c in
    let circuit = c.args.circuit.now in
    let m = c.args.list.now.model in
    let order = c.in_level_order-order.result.now in
    let place = c.loop-place.place in
    stem_next m circuit order (place - 1) c.args.class_of.now c.follow.new.class_of
    (get_or order (place - 1) 0) c.stem_fault-in-loop-place.result true
    c.signals-place.ensures.circuit.well_formed c.in_level_order-order.ensures
    (turned m circuit order c.args.class_of.now c.follow.new.class_of place (omega arith)
    (known_then after.After-stem_fault-in-loop-place)) (next_signal after.After-stem_fault)
    (at_one after.After-stem_fault-in-loop-place)

pub loop-place-preserved : goal.loop-place-preserved
loop-place-preserved c =
    let after = goal.at.loop-place-preserved c in
    let circuit = c.args.circuit.now in
    let m = c.args.list.now.model in
    let order = c.in_level_order-order.result.now in
    let place = c.loop-place.place in
    let last = c.follow-in-loop-place.new.class_of in
    let both = stems_kept m circuit order place c.args.class_of.now c.follow.new.class_of last
    (known_then after.After-stem_fault-in-loop-place) c.follow-in-loop-place.ensures.kept in
    stems_more m circuit order (place - 1) c.args.class_of.now last (get_or order (place - 1) 0)
    c.stem_fault.result c.stem_fault-in-loop-place.result
    c.signals-place.ensures.circuit.well_formed
    (turned m circuit order c.args.class_of.now last place (omega arith) both)
    (next_signal after.After-stem_fault) (at_zero after.After-stem_fault)
    (at_one after.After-stem_fault-in-loop-place)
    (c.follow-in-loop-place.ensures.kept c.stem_fault.result c.follow.ensures.known)
    c.follow-in-loop-place.ensures.known

pub returns-clause-stems : goal.returns-clause-stems
returns-clause-stems c =
    let circuit = c.args.circuit.now in
    let m = c.args.list.now.model in
    let order = c.in_level_order-order.result.now in
    let none : c.loop-place.place ≡ 0 = omega (arith, c.loop-place-test.false) in
    stems_all m circuit order c.args.class_of.now c.loop-place.class_of
    c.in_level_order-order.ensures
    (subst (λ k. StemsFrom m circuit order k c.args.class_of.now c.loop-place.class_of) none
    c.loop-place.invariant)
