use Rattle.std.proofs.Common.{◌≡◌, ◌+◌, ◌∙◌, ap, arith, length, refl, subst, sym}
use Rattle.std.{specs.Prelude.slice_index_or, proofs.lemmas.Option.slice_get-get_or}
use Rattle.region_sim.{specs.declared.pack.Slot.Slot, proofs.UnitParts.{AreSlotsSoFar, slots_more}}
use Rattle.region_sim.proofs.unit_simulation.give_slots.Goals as goal

pub returns-clause-parted : goal.returns-clause-parted
returns-clause-parted c =
    let last = c.loop-slot.invariant.parts in
    let le = c.loop-slot.invariant.within in
    let end : c.loop-slot.slot ≡ 4 = omega (arith, le, c.loop-slot-test.false) in
    let slots = c.loop-slot.slots.items in
    record {
      many = last.many ∙ end;
      stems = λ i d lt. last.stems i (slice_index_or slots i d) (slice_get-get_or slots i d lt);
      within = λ i d lt. last.within i (slice_index_or slots i d) (slice_get-get_or slots i d lt);
      each = λ one k member low on. last.each one k member low (omega (arith, low, end)) on;
      only = last.only;
    }

pub loop-slot-preserved : goal.loop-slot-preserved
loop-slot-preserved c =
    let n = c.loop-slot.slot in
    let last = c.loop-slot.invariant in
    let len = last.len in
    let few = c.requires.few in
    let more = c.add_parts.ensures.len in
    let count = last.count in
    let pushed = c.push_reserved.ensures.len in
    let slot : Slot = record {
      stem = c.args.stem;
      begin = length c.as_slice-begin.result.now;
      end = length c.as_slice-end.result.now;
    } in
    record {
      parts = subst (λ l. AreSlotsSoFar c.args.stem c.args.classes.now (n + 1) l
          c.add_parts.new.followed.items) (sym c.push_reserved.ensures.items)
          (slots_more c.args.stem c.args.classes.now n c.loop-slot.slots.items
          c.loop-slot.followed.items c.add_parts.new.followed.items last.parts
          c.add_parts.ensures.added slot refl (ap length c.as_slice-begin.ensures.value)
          (ap length c.as_slice-end.ensures.value));
      len = omega (arith, len, few, more);
      count = omega (arith, count, pushed);
      within = omega (arith, c.loop-slot-test.true);
      capacity = c.add_parts.ensures.capacity ∙ last.capacity;
      room = c.push_reserved.ensures.capacity ∙ last.room;
    }
