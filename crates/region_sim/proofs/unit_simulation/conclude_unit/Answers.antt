use Rattle.std.proofs.Common.{◌≡◌, ◌<◌, ap, arith, length, refl, sym, ◌∙◌, subst}
use Rattle.std.{specs.Prelude.{Some, slice_get}, proofs.lemmas.Option.slice_get_within}
use Rattle.wide_words.specs.Wide.{number}
use Rattle.region_sim.{specs.UnitHits.HasTakenUnitAt, proofs.UnitHits.units_more}
use Rattle.region_sim.proofs.RegionHits.{member_at, place_of_member, some_at}
use Rattle.flat_circuit.proofs.Public.{index_of}
use Rattle.region_sim.proofs.unit_simulation.conclude_unit.Goals as goal

pub take_unit_at-requires-clause-place : goal.take_unit_at-requires-clause-place
take_unit_at-requires-clause-place g c =
    let classes = c.args.classes.now in
    let i = c.loop-one.one-index in
    let one = c.one-item.result in
    let there = some_at classes i c.loop-one-test.true in
    let same : one ≡ there.0 = c.one-item.is ∙ index_of classes i there.0 one there.1 in
    let at : slice_get classes i ≡ Some one = there.1 ∙ ap Some (sym same) in
    let low : one.place < length c.args.kept.now =
    c.requires.places one (member_at classes i one at) in
    let count : length c.loop-one.kept ≡ length c.args.kept.now = c.loop-one.invariant.count in
    omega (arith, low, count)

pub loop-one-preserved : goal.loop-one-preserved
loop-one-preserved g c =
    let classes = c.args.classes.now in
    let all = g.G.Goal.ALL_LANES in
    let means = g.G.Goal.means c.args.goal.now in
    let i = c.loop-one.one-index in
    let one = c.one-item.result in
    let there = some_at classes i c.loop-one-test.true in
    let same : one ≡ there.0 = c.one-item.is ∙ index_of classes i there.0 one there.1 in
    let at : slice_get classes i ≡ Some one = there.1 ∙ ap Some (sym same) in
    units_more all means c.args.group (number c.args.seen) classes i c.args.kept.now c.loop-one.kept
    c.take_unit_at.new.kept one c.requires.ordered at c.take_unit_at.ensures.places
    c.take_unit_at.ensures.others
    (subst (λ w. HasTakenUnitAt all means c.args.group w c.loop-one.kept c.take_unit_at.new.kept
    one.place) c.and.ensures c.take_unit_at.ensures.taken) c.loop-one.invariant

pub loop-one-init : goal.loop-one-init
loop-one-init g c = record {
  count = refl;
  others = λ place h. refl;
  taken = λ i one lt is. absurd (omega (arith, lt));
}

pub returns-clause-others : goal.returns-clause-others
returns-clause-others g c = λ place h. c.loop-one.invariant.others place
    (λ i one lt is e. h (one, member_at c.args.classes.now i one is, e))

pub returns-clause-concluded : goal.returns-clause-concluded
returns-clause-concluded g c = λ one there.
    let classes = c.args.classes.now in
    let at = place_of_member classes one there in
    let low = slice_get_within classes at.0 one at.1 in
    c.loop-one.invariant.taken at.0 one (omega (arith, low, c.loop-one-test.false)) at.1
