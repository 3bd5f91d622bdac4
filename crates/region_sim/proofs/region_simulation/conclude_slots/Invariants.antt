use Rattle.wide_words.specs.Wide.{number}
use Rattle.region_sim.specs.RegionHits.{AreSlotsConcluded}
use Rattle.region_sim.proofs.region_simulation.conclude_slots.Given as goal

abbrev pub invariant-loop-slot : goal.invariant-loop-slot
invariant-loop-slot g l =
    AreSlotsConcluded g.G.Goal.ALL_LANES (g.G.Goal.means l.goal) g.C.Copies.layout l.span
    (number l.seen) l.followed l.stems l.slot l.fn.kept l.kept
