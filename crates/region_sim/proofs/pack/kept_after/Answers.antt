use Rattle.std.proofs.{Common.{◌≡◌, ◌<◌, ◌∙◌, ◌+◌, ap, arith, subst, sym}, lemmas.Bool.false≢true}
use Rattle.std.specs.Prelude.{Some, slice_get, slice_index_or}
use Rattle.list_lemmas.proofs.Places.{within_place}
use Rattle.wide_words.specs.{declared.wide.Wide.Wide, Lanes.{lane_in, slots}, Wide.number}
use Rattle.flat_circuit.{proofs.Public.{lane_zero, index_of, some_lane}, specs.Words.lane}
use Rattle.region_sim.specs.{declared.pack.Slot.Slot, Pack.AreKeptAfter}
use Rattle.region_sim.proofs.PackSlots.{kept_narrowed, kept_none, kept_stale, lane_of_slot}
use Rattle.region_sim.proofs.pack.kept_after.Goals.{then-part-ne0, else-part-ne0}
use Rattle.region_sim.proofs.pack.kept_after.Goals as goal

pub loop-slot-init : goal.loop-slot-init
loop-slot-init g c = kept_none g.C.Copies.layout c.args.followed.now c.args.stems.now
    (number c.args.kept) (number c.args.fresh) (number c.args.seen)

pub loop-slot-preserved : goal.loop-slot-preserved
loop-slot-preserved g c =
    let layout = g.C.Copies.layout in
    let stems = c.args.stems.now in
    let slot = c.loop-slot.slot in
    let fresh = number c.args.fresh in
    let within : slot < slots layout = omega (arith, c.loop-slot-test.true, c.requires.slots) in
    let After : Wide → Type 0 =
    λ word. AreKeptAfter layout c.args.followed.now stems (number c.args.kept) fresh
    (number c.args.seen) (number word) (slot + 1) in
    elim c.if-part-ne0.branch [
      | then-part-ne0 w ↦
          let none : Slot = record { stem = 0; begin = 0; end = 0 } in
          let own = slice_index_or stems slot none in
          let place = within_place stems slot c.loop-slot-test.true in
          let is : slice_get stems slot ≡ Some own =
          (rw (index_of stems slot place.0 none place.1) place.1) in
          let some = some_lane c.part.result (omega (arith, c.part.type_inv)) w.if-part-ne0.true in
          let at = lane_of_slot layout g.C.Copies.sized slot fresh c.part.result within
          c.part.ensures.own c.part.ensures.rest some.0 some.2 in
          subst After (sym w.rest-is)
          (kept_narrowed layout c.args.followed.now stems (number c.args.kept) fresh
          (number c.args.seen) slot (number c.loop-slot.rest) c.loop-slot.invariant own is
          (number w.kept_in_slot-rest.result) (at.0, at.1, at.2, at.4)
          w.kept_in_slot-rest.ensures.own w.kept_in_slot-rest.ensures.others)
      | else-part-ne0 w ↦ subst After (sym w.rest-is)
          (kept_stale layout c.args.followed.now stems (number c.args.kept) fresh
          (number c.args.seen) slot (number c.loop-slot.rest) c.loop-slot.invariant
          (λ m lt here e. false≢true (sym (lane_zero (lane_in layout m))
          ∙ (ap (λ n. lane n (lane_in layout m)) (sym w.if-part-ne0.false)
          ∙ (c.part.ensures.own m lt here ∙ e)))))
    ]
