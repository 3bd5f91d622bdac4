use Rattle.std.proofs.Common.{◌≡◌, ◌<◌, ◌^◌, arith}
use Rattle.std.specs.Prelude.{Some, bit_and, slice_get, slice_index_or}
use lib.Bits.{and_le_r}
use Rattle.list_lemmas.proofs.{Members.among, Places.{place_within, placed, within_place}}
use Rattle.block_sim.specs.declared.propagation.Followed.{Followed}
use Rattle.block_sim.proofs.SettledLanes.{one_hit, one_open}
use Rattle.flat_circuit.proofs.Public.{index_of}
use Rattle.block_sim.proofs.propagation.below_hits.Goals as goal

pub loop-one-preserved : goal.loop-one-preserved
loop-one-preserved c =
    let followed = c.args.followed.now in
    let i = c.loop-one.one-index in
    let none : Followed = record { class = 0; place = 0; lanes = 0 } in
    let one = slice_index_or followed i none in
    let place = within_place followed i c.loop-one-test.true in
    let at : slice_get followed i ≡ Some one =
    (rw (index_of followed i place.0 none place.1) place.1) in
    let seen = c.args.seen in
    let small : bit_and one.lanes seen < 2 ^ 128 = (let le = and_le_r one.lanes seen in
    omega (arith, le, c.ranges.seen)) in
    let before = c.loop-one.invariant in
    record {
      below = λ k lt. one_open followed i one at c.loop-one.below seen c.lanes_below.result small
          c.lanes_below.ensures k lt (before.below k lt);
      rest = λ k lt. one_hit followed i one at c.loop-one.below seen c.lanes_below.result small
          c.lanes_below.ensures k lt (before.rest k lt);
    }

pub returns-clause-rest : goal.returns-clause-rest
returns-clause-rest c = λ k lt out one there.
    let followed = c.args.followed.now in
    let place = placed followed one (among followed one there) in
    let low = place_within followed place.0 one place.1 in
    c.loop-one.invariant.rest k lt out place.0 one (omega (arith, low, c.loop-one-test.false))
    place.1
