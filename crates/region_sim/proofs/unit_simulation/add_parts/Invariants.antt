use Rattle.std.{proofs.Common.{◌≡◌, ◌+◌, ◌≤◌}, specs.Prelude.{vec_capacity, vec_len}}
use Rattle.region_sim.proofs.UnitParts.{ArePartsOf}
use Rattle.region_sim.proofs.unit_simulation.add_parts.Given as goal

abbrev pub invariant-loop-one : goal.invariant-loop-one
invariant-loop-one l = record {
  parts : ArePartsOf l.slot l.classes l.one-index l.fn.followed.items l.followed.items;
  len : vec_len l.followed ≤ vec_len l.fn.followed + l.one-index;
  capacity : vec_capacity l.followed ≡ vec_capacity l.fn.followed;
}
