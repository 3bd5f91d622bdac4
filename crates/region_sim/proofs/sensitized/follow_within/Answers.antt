use Rattle.std.{proofs.Common.{◌≡◌, ◌∙◌, refl, subst, sym}, specs.Prelude.Some}
use Rattle.flat_circuit.specs.{Regions.IsStemOf, Stuck.stuck_fault}
use Rattle.block_sim.proofs.Public.{come_nowhere}
use Rattle.region_sim.proofs.SensitizedLanes.{come_to_stem}
use Rattle.region_sim.proofs.sensitized.follow_within.Goals as goal

pub returns-then-from-eq0-clause-reached : goal.returns-then-from-eq0-clause-reached
returns-then-from-eq0-clause-reached c = λ tests group words.
    come_nowhere c.args.view.circuit.now.arranged tests group (stuck_fault c.args.origin.fault)
    c.args.view.lanes c.in-Stem.from.signal c.args.region.now.stem c.in-Stem.from.lanes
    c.if-from-eq0.true (c.in-Stem.ensures.reached tests group words)

pub lanes_of-requires-clause-leads : goal.lanes_of-requires-clause-leads
lanes_of-requires-clause-leads c =
    let own = c.requires.stem in
    let from : Some own.0 ≡ Some c.in-Stem.from.signal = sym own.1
    ∙ c.in-Stem.ensures.from c.in-Stem.from refl in
    let same : own.0 ≡ c.in-Stem.from.signal = cc in
    subst (IsStemOf c.args.view.circuit.now.arranged c.args.region.now.stem) same own.2

pub returns-else-from-eq0-clause-reached : goal.returns-else-from-eq0-clause-reached
returns-else-from-eq0-clause-reached c = λ tests group words.
    come_to_stem c.args.view.circuit.now.arranged tests group (stuck_fault c.args.origin.fault)
    c.args.view.lanes c.args.region.now.lanes c.in-Stem.from.signal c.args.region.now.stem
    c.in-Stem.from.lanes c.lanes_of.result c.requires.inside
    (c.in-Stem.ensures.reached tests group words) (c.lanes_of.ensures.detection tests group words)
