use Rattle.wide_words.specs.Wide.{number}
use Rattle.region_sim.specs.Pack.{AreKeptAfter}
use Rattle.region_sim.proofs.pack.kept_after.Given as goal

abbrev pub invariant-loop-slot : goal.invariant-loop-slot
invariant-loop-slot g l =
    AreKeptAfter g.C.Copies.layout l.followed l.stems (number l.fn.kept) (number l.fresh)
    (number l.seen) (number l.rest) l.slot
