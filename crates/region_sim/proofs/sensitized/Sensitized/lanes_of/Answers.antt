use Rattle.std.proofs.Common.{arith, subst, sym}
use Rattle.region_sim.specs.Sensitized.{CarriesFlip}
use Rattle.region_sim.proofs.sensitized.Sensitized.lanes_of.Goals as goal

pub returns-in-Some-clause-detection : goal.returns-in-Some-clause-detection
returns-in-Some-clause-detection c = λ tests group words.
    c.requires.sensitized.known.each c.args.signal c.in-Some.lanes (sym c.in-Some.ensures) tests
    group words

pub returns-in-None-clause-detection : goal.returns-in-None-clause-detection
returns-in-None-clause-detection c = λ tests group words.
    let own = c.args.self.now in
    subst (λ s. CarriesFlip c.args.view.circuit.now.arranged tests group own.lanes s own.stem
    c.descend.result) c.climb-at.ensures.first
    (c.descend.ensures.detection own.lanes own.stem c.requires.sensitized.known
    c.climb-at.ensures.known tests group words)

pub returns-in-None-clause-sensitized : goal.returns-in-None-clause-sensitized
returns-in-None-clause-sensitized c =
    let own = c.args.self.now in
    let path = c.requires.sensitized.path in
    record {
      known = c.descend.ensures.known own.lanes own.stem c.requires.sensitized.known
          c.climb-at.ensures.known;
      path = omega (arith, path, c.descend.ensures.capacity, c.climb-at.ensures.capacity);
    }
