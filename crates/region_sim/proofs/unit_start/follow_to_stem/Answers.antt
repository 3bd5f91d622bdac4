use Rattle.std.{proofs.Common.{◌≡◌, ◌∙◌, ap, refl, subst, sym}, specs.Prelude.{None, Some}}
use Rattle.wide_words.specs.Wide.{number}
use Rattle.block_sim.specs.Flips.{start_of}
use Rattle.flat_circuit.{specs.Stuck.stuck_fault, specs.Words.lane, proofs.Public.lane_zero}
use Rattle.region_sim.specs.Units.{CarryFlip, HaveCome}
use Rattle.region_sim.proofs.UnitStarts.{come_to_dead, come_to_stem, start_within}
use Rattle.region_sim.proofs.unit_start.follow_to_stem.Goals as goal

pub lanes_of-at-requires-clause-within : goal.lanes_of-at-requires-clause-within
lanes_of-at-requires-clause-within g c =
    start_within c.args.origin.fault.model c.args.circuit.now.arranged
    c.requires.circuit.well_formed (stuck_fault c.args.origin.fault) c.requires.listed
    c.in-Some.first (sym c.first_signal.ensures ∙ c.in-Some.is)

pub returns-then-is_none-clause-reached : goal.returns-then-is_none-clause-reached
returns-then-is_none-clause-reached g c = λ tests group rows.
    let empty : number c.lanes_of-at.result ≡ 0 = c.is_none.ensures.0 c.if-is_none.true in
    come_to_dead c.args.circuit.now.arranged c.requires.circuit.well_formed tests
    g.C.Copies.layout group c.args.origin.fault.model (stuck_fault c.args.origin.fault)
    c.requires.listed (number c.args.lanes) c.in-Some.first c.args.region.now.stem
    (number c.lanes_of-at.result) (sym c.first_signal.ensures ∙ c.in-Some.is)
    (c.lanes_of-at.ensures.carries tests group rows) (λ k. ap (λ w. lane w k) empty ∙ lane_zero k)

pub returns-in-Stem-clause-reached : goal.returns-in-Stem-clause-reached
returns-in-Stem-clause-reached g c = λ tests group rows.
    let circuit = c.args.circuit.now.arranged in
    let fault = stuck_fault c.args.origin.fault in
    let both : Some c.in-Some.first ≡ Some c.in-Stem.from.signal =
    sym (sym c.first_signal.ensures ∙ c.in-Some.is) ∙ c.in-Stem.ensures.from c.in-Stem.from refl in
    let same : c.in-Some.first ≡ c.in-Stem.from.signal = cc in
    subst (HaveCome circuit tests g.C.Copies.layout group fault (number c.args.lanes)
    c.args.region.now.stem) (sym c.and-lanes.ensures)
    (come_to_stem circuit tests g.C.Copies.layout group fault (number c.args.lanes)
    c.in-Stem.from.signal c.args.region.now.stem (number c.in-Stem.from.lanes)
    (number c.lanes_of-at.result) (c.in-Stem.ensures.reached tests group rows)
    (subst (λ s. CarryFlip circuit tests g.C.Copies.layout group s c.args.region.now.stem
    (number c.lanes_of-at.result)) same (c.lanes_of-at.ensures.carries tests group rows)))

pub returns-in-None-clause-stem : goal.returns-in-None-clause-stem
returns-in-None-clause-stem g c = λ at e.
    let from : start_of c.args.origin.fault.line ≡ Some at.signal =
    c.start-in-None.ensures.from at e in
    let bad : None ≡ Some at.signal = sym (sym c.first_signal.ensures ∙ c.in-None.is) ∙ from in cc
