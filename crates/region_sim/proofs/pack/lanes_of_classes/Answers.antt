use Rattle.std.{proofs.Common.{◌≡◌, arith}, specs.Prelude.{Some, slice_get, slice_index_or}}
use Rattle.list_lemmas.proofs.{Members.among, Places.{place_within, placed, within_place}}
use Rattle.block_sim.specs.declared.propagation.Followed.{Followed}
use Rattle.flat_circuit.proofs.Public.{index_of}
use Rattle.region_sim.proofs.PackSlots.{one_joined, one_of_joined}
use Rattle.region_sim.proofs.pack.lanes_of_classes.Goals as goal

pub loop-one-preserved : goal.loop-one-preserved
loop-one-preserved c =
    let followed = c.args.followed.now in
    let i = c.loop-one.one-index in
    let none : Followed = record { class = 0; place = 0; lanes = 0 } in
    let one = slice_index_or followed i none in
    let place = within_place followed i c.loop-one-test.true in
    let at : slice_get followed i ≡ Some one =
    (rw (index_of followed i place.0 none place.1) place.1) in
    record {
      some = λ j lt. one_of_joined followed i one at c.loop-one.lanes j
          (c.loop-one.invariant.some j lt);
      all = λ j. one_joined followed i one at c.loop-one.lanes j (c.loop-one.invariant.all j);
    }

pub returns : goal.returns
returns c = λ j lt. (
  c.loop-one.invariant.some j lt,
  λ have.
      let followed = c.args.followed.now in
      let place = placed followed have.0 (among followed have.0 have.1) in
      let low = place_within followed place.0 have.0 place.1 in
      c.loop-one.invariant.all j place.0 have.0 (omega (arith, low, c.loop-one-test.false)) place.1
      have.2,
)
