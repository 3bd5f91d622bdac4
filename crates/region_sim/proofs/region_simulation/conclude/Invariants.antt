use Rattle.region_sim.proofs.RegionHits.{AreTakenBelow}
use Rattle.region_sim.proofs.region_simulation.conclude.Given as goal

abbrev pub invariant-loop-one : goal.invariant-loop-one
invariant-loop-one g l = AreTakenBelow g.G.Goal.ALL_LANES (g.G.Goal.means l.goal) l.span l.seen
    l.followed l.one-index l.fn.kept l.kept
