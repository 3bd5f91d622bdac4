use Rattle.wide_words.specs.Wide.{number}
use Rattle.region_sim.proofs.UnitHits.{AreUnitsTaken}
use Rattle.region_sim.proofs.unit_simulation.conclude_unit.Given as goal

abbrev pub invariant-loop-one : goal.invariant-loop-one
invariant-loop-one g l = AreUnitsTaken g.G.Goal.ALL_LANES (g.G.Goal.means l.goal) l.group
    (number l.seen) l.classes l.one-index l.fn.kept l.kept
