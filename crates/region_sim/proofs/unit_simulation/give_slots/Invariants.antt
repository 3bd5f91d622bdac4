use Rattle.std.{proofs.Common.{◌≡◌, ◌*◌, ◌≤◌}, specs.Prelude.{vec_capacity, vec_len}}
use Rattle.region_sim.proofs.UnitParts.{AreSlotsSoFar}
use Rattle.region_sim.proofs.unit_simulation.give_slots.Given as goal

abbrev pub invariant-loop-slot : goal.invariant-loop-slot
invariant-loop-slot l = record {
  parts : AreSlotsSoFar l.stem l.classes l.slot l.slots.items l.followed.items;
  len : vec_len l.followed ≤ 256 * l.slot;
  count : vec_len l.slots ≡ l.slot;
  within : l.slot ≤ 4;
  capacity : vec_capacity l.followed ≡ vec_capacity l.fn.followed;
  room : vec_capacity l.slots ≡ vec_capacity l.fn.slots;
}
