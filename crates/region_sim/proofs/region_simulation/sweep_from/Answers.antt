use Rattle.std.proofs.Common.{inr, length, refl}
use Rattle.region_sim.proofs.UnitSpans.{from_block, is_sweep, last_within, unit_within}
use Rattle.region_sim.proofs.region_simulation.sweep_from.Goals as goal

pub returns-in-AtOnce-clause-sweep : goal.returns-in-AtOnce-clause-sweep
returns-in-AtOnce-clause-sweep c =
    inr ((rw c.tests.ensures.part at c.if-is_unit.ensures.is).0 refl, refl)

pub returns-in-AtOnce-clause-within : goal.returns-in-AtOnce-clause-within
returns-in-AtOnce-clause-within c = unit_within (length c.args.job.now.tests.tests) c.args.block
    ((rw c.tests.ensures.part at c.if-is_unit.ensures.is).0 refl)

pub returns-in_default-clause-sweep : goal.returns-in_default-clause-sweep
returns-in_default-clause-sweep c = is_sweep (length c.args.job.now.tests.tests) c.args.block
    c.last_together-last.result c.requires c.last_together-last.ensures.together

pub returns-in_default-clause-ordered : goal.returns-in_default-clause-ordered
returns-in_default-clause-ordered c = from_block (length c.args.job.now.tests.tests) c.args.block
    c.last_together-last.result c.requires c.last_together-last.ensures.together

pub returns-in_default-clause-within : goal.returns-in_default-clause-within
returns-in_default-clause-within c = last_within (length c.args.job.now.tests.tests) c.args.block
    c.last_together-last.result c.requires c.last_together-last.ensures.together
