use Rattle.wide_words.specs.Wide.{number}
use Rattle.region_sim.proofs.UnitHits.{AreGroupsTaken}
use Rattle.region_sim.proofs.unit_simulation.take_unit_at.Given as goal

abbrev pub invariant-loop-slot : goal.invariant-loop-slot
invariant-loop-slot g l = AreGroupsTaken g.G.Goal.ALL_LANES (g.G.Goal.means l.goal) l.group
    (number l.lanes) l.slot l.place l.fn.kept l.kept
