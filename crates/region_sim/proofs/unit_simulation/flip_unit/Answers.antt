use Rattle.std.{proofs.Common.{ap, arith, subst, sym}, specs.Prelude.vec_capacity}
use Rattle.wide_words.specs.{Layouts.both_layout, Wide.number}
use Rattle.region_sim.specs.{Pack.{AreSlots, TellsPack}, Units.group_in}
use Rattle.region_sim.proofs.UnitFlips.{taken_in_unit, unit_slots}
use Rattle.flat_circuit.proofs.Public.{count_there, reordered, circuit_there}
use Rattle.region_sim.proofs.unit_simulation.flip_unit.Goals as goal

pub propagate-seen-requires-clause-circuit : goal.propagate-seen-requires-clause-circuit
propagate-seen-requires-clause-circuit g c =
    let view = c.requires.view in
    circuit_there c.args.job.now.circuit c.args.view.circuit.now.arranged view.together.circuit
    view.arranged

pub propagate-seen-requires-clause-free : goal.propagate-seen-requires-clause-free
propagate-seen-requires-clause-free g c =
    (c.args.job.now.tests.tests, group_in c.args.group, c.requires.view.fault_free)

pub propagate-seen-requires-clause-room : goal.propagate-seen-requires-clause-room
propagate-seen-requires-clause-room g c =
    let view = c.requires.view in
    let same = count_there c.args.job.now.circuit c.args.view.circuit.now.arranged
    view.together.circuit.well_formed view.arranged in
    let deltas = c.requires.pack.deltas in
    let waiting = c.requires.pack.waiting in
    record { deltas = omega (arith, same, deltas); gates = omega (arith, same, waiting) }

pub propagate-seen-requires-clause-slots : goal.propagate-seen-requires-clause-slots
propagate-seen-requires-clause-slots g c =
    let there = c.args.view.circuit.now.arranged in
    subst (AreSlots both_layout there c.give_slots.new.slots.items) (sym c.as_slice.ensures.value)
    (unit_slots c.args.stem c.args.came.now c.give_slots.new.slots.items
    c.give_slots.new.followed.items c.give_slots.ensures.parted there c.requires.stem
    c.requires.hidden)

pub returns-clause-taken : goal.returns-clause-taken
returns-clause-taken g c = λ signal rows from to before moved arrived at so still.
    let job = c.args.job.now in
    let there = c.args.view.circuit.now.arranged in
    let view = c.requires.view in
    let well = view.together.circuit.well_formed in
    let all = g.G.Goal.ALL_LANES in
    taken_in_unit c.args.stem c.args.came.now c.give_slots.new.slots.items
    c.give_slots.new.followed.items c.give_slots.ensures.parted job there well
    (reordered job.circuit there well view.arranged) c.args.group signal moved
    (number c.propagate-seen.result) all
    (subst (λ l. TellsPack all both_layout there job.tests.tests (group_in c.args.group)
    c.give_slots.new.slots.items l (number c.propagate-seen.result)) c.as_slice.ensures.value
    (c.propagate-seen.ensures.detected job.tests.tests (group_in c.args.group) view.fault_free))
    (g.G.Goal.wants c.args.goal.now) (g.G.Goal.means c.args.goal.now)
    rows from to before c.args.kept.now c.conclude_unit.new.kept arrived at so still
    c.conclude_unit.ensures.others c.conclude_unit.ensures.concluded

pub returns-clause-room : goal.returns-clause-room
returns-clause-room g c = record {
  deltas = c.propagate-seen.ensures.room.0;
  waiting = c.propagate-seen.ensures.room.1;
  slots = (let same = ap vec_capacity c.propagate-seen.ensures.slots in
      let kept = c.give_slots.ensures.capacity.1 in omega (arith, same, kept));
}
