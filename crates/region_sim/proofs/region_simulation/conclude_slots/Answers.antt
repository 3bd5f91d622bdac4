use Rattle.std.proofs.Common.{◌≡◌, ◌+◌, arith}
use Rattle.std.specs.Prelude.{Some, slice_get, slice_index_or, slice_range}
use Rattle.list_lemmas.proofs.Places.{within_place}
use Rattle.wide_words.specs.Wide.{number}
use Rattle.region_sim.{specs.declared.pack.Slot.Slot, proofs.ListParts.out_of_range}
use Rattle.region_sim.proofs.RegionHits.{member_at, place_of_member}
use Rattle.region_sim.proofs.SlotHits.{no_slots, order_within, slot_more}
use Rattle.flat_circuit.proofs.Public.{index_of}
use Rattle.region_sim.proofs.region_simulation.conclude_slots.Goals as goal

abbrev none : Slot
none = record { stem = 0; begin = 0; end = 0 }

pub loop-slot-init : goal.loop-slot-init
loop-slot-init g c = no_slots g.G.Goal.ALL_LANES (g.G.Goal.means c.args.goal.now)
    g.C.Copies.layout c.args.span (number c.args.seen) c.args.followed.now c.args.stems.now
    c.args.kept.now

pub conclude-requires-clause-ordered : goal.conclude-requires-clause-ordered
conclude-requires-clause-ordered g c =
    let slot = slice_index_or c.args.stems.now c.loop-slot.slot none in
    order_within c.args.followed.now slot.begin slot.end c.requires.ordered

pub conclude-requires-clause-places : goal.conclude-requires-clause-places
conclude-requires-clause-places g c = λ one there.
    let followed = c.args.followed.now in
    let slot = slice_index_or c.args.stems.now c.loop-slot.slot none in
    let at = place_of_member (slice_range followed slot.begin slot.end) one there in
    let out = out_of_range followed slot.begin slot.end at.0 one at.1 in
    let low = c.requires.places one (member_at followed (slot.begin + at.0) one out.1) in
    let many = c.loop-slot.invariant.many in
    omega (arith, low, many)

pub loop-slot-preserved : goal.loop-slot-preserved
loop-slot-preserved g c =
    let stems = c.args.stems.now in
    let i = c.loop-slot.slot in
    let own = slice_index_or stems i none in
    let place = within_place stems i c.loop-slot-test.true in
    let is : slice_get stems i ≡ Some own = (rw (index_of stems i place.0 none place.1) place.1) in
    slot_more g.C.Copies.layout c.args.span (number c.args.seen) c.args.followed.now stems i own is
    g.G.Goal.ALL_LANES (g.G.Goal.means c.args.goal.now) c.part-word.result c.args.kept.now
    c.loop-slot.kept c.conclude.new.kept
    (record { own = c.part-word.ensures.own; rest = c.part-word.ensures.rest })
    c.requires.ordered c.requires.apart c.loop-slot.invariant c.conclude.ensures.places
    c.conclude.ensures.others c.conclude.ensures.detection
