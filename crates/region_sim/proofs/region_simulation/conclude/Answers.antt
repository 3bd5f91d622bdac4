use Rattle.std.{proofs.Common.{◌≡◌, ◌<◌, arith, length, refl}, specs.Prelude.slice_index_or}
use Rattle.std.proofs.lemmas.Option.{slice_get-get_or, slice_get_within}
use Rattle.block_sim.specs.declared.propagation.Followed.{Followed}
use Rattle.region_sim.proofs.RegionHits.{member_at, place_of_member, taken_below}
use Rattle.region_sim.proofs.region_simulation.conclude.Goals as goal

abbrev none : Followed
none = record { class = 0; place = 0; lanes = 0 }

pub take_at-requires-clause-place : goal.take_at-requires-clause-place
take_at-requires-clause-place g c =
    let followed = c.args.followed.now in
    let i = c.loop-one.one-index in
    let one = slice_index_or followed i none in
    let at = slice_get-get_or followed i none c.loop-one-test.true in
    let low : one.place < length c.args.kept.now =
    c.requires.places one (member_at followed i one at) in
    let count : length c.loop-one.kept ≡ length c.args.kept.now = c.loop-one.invariant.count in
    omega (arith, low, count)

pub loop-one-init : goal.loop-one-init
loop-one-init g c = record {
  count = refl;
  others = λ place h. refl;
  taken = λ i one lt is. absurd (omega (arith, lt));
}

pub loop-one-preserved : goal.loop-one-preserved
loop-one-preserved g c =
    let followed = c.args.followed.now in
    let i = c.loop-one.one-index in
    let one = slice_index_or followed i none in
    let at = slice_get-get_or followed i none c.loop-one-test.true in
    taken_below g.G.Goal.ALL_LANES (g.G.Goal.means c.args.goal.now) c.args.span c.args.seen followed
    i c.args.kept.now c.loop-one.kept c.take_at.new.kept one c.requires.ordered at
    c.take_at.ensures.places c.take_at.ensures.others c.take_at.ensures.taken c.loop-one.invariant

pub returns-clause-others : goal.returns-clause-others
returns-clause-others g c = λ place h. c.loop-one.invariant.others place
    (λ i one lt is e. h (one, member_at c.args.followed.now i one is, e))

pub returns-clause-detection : goal.returns-clause-detection
returns-clause-detection g c = λ one there.
    let followed = c.args.followed.now in
    let at = place_of_member followed one there in
    let low = slice_get_within followed at.0 one at.1 in
    c.loop-one.invariant.taken at.0 one (omega (arith, low, c.loop-one-test.false)) at.1
