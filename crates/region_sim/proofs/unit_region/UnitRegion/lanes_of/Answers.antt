use Rattle.std.proofs.Common.{arith, subst, sym}
use Rattle.wide_words.specs.Wide.{number}
use Rattle.region_sim.specs.Units.{CarryFlip}
use Rattle.region_sim.proofs.unit_region.UnitRegion.lanes_of.Goals as goal

pub returns-in-Some-clause-carries : goal.returns-in-Some-clause-carries
returns-in-Some-clause-carries g c = λ tests group rows.
    c.requires.region.known.each c.args.signal c.in-Some.lanes (sym c.in-Some.ensures) tests
    group rows

pub returns-in-None-clause-carries : goal.returns-in-None-clause-carries
returns-in-None-clause-carries g c = λ tests group rows.
    let own = c.args.self.now in
    subst (λ s. CarryFlip c.args.circuit.now.arranged tests g.C.Copies.layout group s own.stem
    (number c.descend.result)) c.climb-at.ensures.first
    (c.descend.ensures.carries own.stem c.requires.region.known c.climb-at.ensures.known tests group
    rows)

pub returns-in-None-clause-region : goal.returns-in-None-clause-region
returns-in-None-clause-region g c =
    let own = c.args.self.now in
    let path = c.requires.region.path in
    record {
      known = c.descend.ensures.known own.stem c.requires.region.known c.climb-at.ensures.known;
      path = omega (arith, path, c.descend.ensures.capacity, c.climb-at.ensures.capacity);
    }
