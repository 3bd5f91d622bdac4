use Rattle.std.proofs.Common.{◌≡◌, ◌<◌, ◌+◌, ◌*◌, ◌∙◌, ℕ, ap, arith, get_or, length, refl, set}
use Rattle.std.{proofs.Common.{subst, Vec, Global, sym}, specs.Vec.with_items}
use Rattle.std.{specs.Prelude.{All, Contains, Some, slice_get}, proofs.lemmas.List.Elements.All-set}
use Rattle.std.proofs.lemmas.{List.{length-map, length-set}, Option.get_or_from_slice_get}
use Rattle.patterns.specs.Tests.{TestList}
use Rattle.flat_circuit.specs.{BlockSpans.groups, Stuck.stuck_fault}
use Rattle.flat_circuit.proofs.Public.{carried_name, circuit_there, listed_there, moved_there}
use Rattle.fault_model.specs.{Detection.name_on, Fault.{Fault, faults}, Reordered.moved_fault}
use Rattle.list_lemmas.proofs.Places.{place_within, within_place}
use Rattle.blocking_pins.specs.Counting.{AreAdded, AreAllAdded, BlocksAtPlace, BlocksInLane}
use Rattle.blocking_pins.proofs.{Adding.added_same, AllAdding.{all_added_more, all_added_none}}
use Rattle.blocking_pins.proofs.LaneBlocks.{lane_at_place, place_in_lane}
use Rattle.blocking_pins.proofs.VecRows.{row_at, rows_of, rows_set, with_items_is}
use Rattle.blocking_pins.proofs.counting.add_fault.Goals.{After-as_mut_slice-row}
use Rattle.blocking_pins.proofs.counting.add_fault.Goals as goal

pub moved-moved-requires : goal.moved-moved-requires
moved-moved-requires c =
    let job = c.args.job.now in
    let f = within_place job.list.list c.args.fault c.requires.fault in
    let given = c.circuit-circuit.ensures.together.circuit.well_formed in
    let n = carried_name job.circuit f.0 c.stuck_of-stuck.result given
    (c.stuck_of-stuck.ensures f.0 f.1) in
    (n.0, ap (λ x. name_on x c.stuck_of-stuck.result.line) c.requires.circuit ∙ n.1)

pub lanes_of-requires-clause-stuck : goal.lanes_of-requires-clause-stuck
lanes_of-requires-clause-stuck c =
    let f = within_place c.args.job.now.list.list c.args.fault c.requires.fault in
    (f.0, c.stuck_of-stuck.ensures f.0 f.1)

pub add_group-requires-clause-view : goal.add_group-requires-clause-view
add_group-requires-clause-view c = record {
  circuit = circuit_there c.args.job.now.circuit c.args.tables.words.circuit.now.arranged
      c.circuit-circuit.ensures.together.circuit c.requires.arranged;
  count = (c.requires.fault_free c.loop-group.group c.of.result.now c.of.ensures).0;
}

-- the fault in the numbers of the flat arrays
is_moved : (c : After-as_mut_slice-row) (f : Fault)
    → slice_get c.args.job.now.list.list c.args.fault ≡ Some f → stuck_fault c.moved-moved.result
    ≡ moved_fault c.args.job.now.circuit c.args.tables.words.circuit.now.arranged f
is_moved c f at = moved_there c.args.job.now.circuit c.args.tables.words.circuit.now.arranged
    c.args.tables.words.circuit.now.statements f c.stuck_of-stuck.result c.moved-moved.result
    c.requires.circuit c.moved-moved.ensures (c.stuck_of-stuck.ensures f at).is

pub add_group-requires-clause-listed : goal.add_group-requires-clause-listed
add_group-requires-clause-listed c =
    let a = (goal.at.add_group-requires-clause-listed c).After-as_mut_slice-row in
    let job = c.args.job.now in
    let there = c.args.tables.words.circuit.now.arranged in
    let f = within_place job.list.list c.args.fault c.requires.fault in
    subst (λ x. Contains (faults x.model there) x) (sym (is_moved a f.0 f.1))
    (listed_there job.circuit there c.circuit-circuit.ensures.together.circuit.well_formed
    c.requires.arranged f.0.model f.0 (c.stuck_of-stuck.ensures f.0 f.1).listed)

-- the row of the group
own_row : (c : After-as_mut_slice-row) → slice_get (rows_of c.loop-group.rows) c.loop-group.group
    ≡ Some c.as_mut_slice-row.result.now
own_row c =
    let rows = c.loop-group.rows in
    let group = c.loop-group.group in
    let index = c.index-rows-group.result in
    let count : length c.tests.result.now.tests ≡ length c.args.job.now.tests.tests =
    ap (λ (t : TestList). length t.tests) c.tests.ensures.part in
    let low : group < groups (length c.args.job.now.tests.tests) = grind (
      arith,
      c.loop-group-test.true,
      c.div_ceil-group-end.ensures,
      c.blocks-2.ensures,
      count,
    ) in
    row_at rows (groups (length c.args.job.now.tests.tests)) group index
    c.loop-group.invariant.room low c.index-rows-group.is
    ∙ ap Some (ap (λ (v : Vec ℕ Global). v.items) c.index-rows-group.is
    ∙ sym c.as_mut_slice-row.ensures.value)

own_long : (c : After-as_mut_slice-row) → length c.as_mut_slice-row.result.now
    ≡ length c.args.tables.pins.now.pins.items
own_long c =
    let rows = rows_of c.loop-group.rows in
    let row = c.as_mut_slice-row.result.now in
    subst (λ r. length r ≡ length c.args.tables.pins.now.pins.items)
    (get_or_from_slice_get rows c.loop-group.group row row (own_row c))
    (c.loop-group.invariant.long c.loop-group.group row
    (place_within rows c.loop-group.group row (own_row c)))

pub add_group-requires-clause-room : goal.add_group-requires-clause-room
add_group-requires-clause-room c =
    own_long (goal.at.add_group-requires-clause-room c).After-as_mut_slice-row
    ∙ sym c.loop-group.invariant.count

pub loop-group-init : goal.loop-group-init
loop-group-init c =
    let job = c.args.job.now in
    let pins = c.args.tables.pins.now.pins.items in
    record {
      added = λ f at. all_added_none (c.args.fault + 1)
          (λ group i k. BlocksAtPlace job.circuit job.tests.tests f pins i (128 * group + k))
          c.args.counts.now (rows_of c.args.rows.now);
      effect = c.requires.effect;
      count = c.requires.count;
      room = length-map c.args.rows.now (λ (row : Vec ℕ Global). row.items) ∙ c.requires.room;
      long = c.requires.rows;
    }

pub loop-group-preserved : goal.loop-group-preserved
loop-group-preserved c =
    let a = (goal.at.loop-group-preserved c).After-as_mut_slice-row in
    let job = c.args.job.now in
    let tests = job.tests.tests in
    let there = c.args.tables.words.circuit.now.arranged in
    let pins = c.args.tables.pins.now.pins.items in
    let group = c.loop-group.group in
    let rows = rows_of c.loop-group.rows in
    let row = c.as_mut_slice-row.result.now in
    let next = c.add_group.new.row in
    let number = c.args.fault + 1 in
    let words = (c.requires.fault_free group c.of.result.now c.of.ensures).1 in
    let added : (f : Fault) → slice_get job.list.list c.args.fault ≡ Some f
    → AreAdded number (λ i k. BlocksAtPlace job.circuit tests f pins i (128 * group + k))
    c.loop-group.counts c.add_group.new.counts row next = λ f at.
    let lanes = λ (k : ℕ) (lt : k < 128).
    c.lanes_of.ensures f k (c.stuck_of-stuck.ensures f at) lt in
    let moved : stuck_fault c.moved-moved.result
    ≡ moved_fault c.args.tables.words.circuit.now.statements there f =
    subst (λ x. stuck_fault c.moved-moved.result ≡ moved_fault x there f)
    (sym c.requires.circuit) (is_moved a f at) in
    let own : AreAdded number (BlocksInLane job.circuit tests group c.lanes_of.result f pins)
    c.loop-group.counts c.add_group.new.counts row next =
    subst (λ x. AreAdded number (BlocksInLane x tests group c.lanes_of.result f pins)
    c.loop-group.counts c.add_group.new.counts row next) c.requires.circuit
    (c.in_ok-add_group.ensures.added tests group f words moved) in
    added_same number (BlocksInLane job.circuit tests group c.lanes_of.result f pins)
    (λ i k. BlocksAtPlace job.circuit tests f pins i (128 * group + k)) c.loop-group.counts
    c.add_group.new.counts row next
    (lane_at_place job.circuit tests group c.lanes_of.result f pins lanes)
    (place_in_lane job.circuit tests group c.lanes_of.result f pins lanes) own in
    let one = within_place job.list.list c.args.fault c.requires.fault in
    let sizes = added one.0 one.1 in
    let own_next : length next ≡ length pins = sizes.room ∙ own_long a in
    let v = get_or c.loop-group.rows group c.index-rows-group.result in
    let size : length next ≡ length v.items =
    sizes.room ∙ ap length c.as_mut_slice-row.ensures.value in
    let written : rows_of (set c.loop-group.rows group (with_items v next)) ≡ set rows group next =
    rows_set c.loop-group.rows group (with_items v next)
    ∙ ap (set rows group) (with_items_is v next size) in
    record {
      added = λ f at. subst (AreAllAdded number (λ g i k. BlocksAtPlace job.circuit tests f pins
          i (128 * g + k)) (group + 1) c.args.counts.now c.add_group.new.counts
          (rows_of c.args.rows.now)) (sym written)
          (all_added_more number (λ g i k. BlocksAtPlace job.circuit tests f pins i (128 * g + k))
          group c.args.counts.now c.loop-group.counts c.add_group.new.counts
          (rows_of c.args.rows.now) rows row next (c.loop-group.invariant.added f at) (own_row a)
          (added f at));
      effect = c.in_ok-add_group.ensures.effect;
      count = sizes.count ∙ c.loop-group.invariant.count;
      room = ap length written ∙ (length-set rows group next ∙ c.loop-group.invariant.room);
      long = subst (All (λ r. length r ≡ length pins)) (sym written)
          (All-set (λ r. length r ≡ length pins) rows group next own_next
          c.loop-group.invariant.long);
    }

pub returns-clause-added : goal.returns-clause-added
returns-clause-added c = λ f at.
    let job = c.args.job.now in
    let pins = c.args.tables.pins.now.pins.items in
    let count : length c.tests.result.now.tests ≡ length job.tests.tests =
    ap (λ (t : TestList). length t.tests) c.tests.ensures.part in
    let full : c.loop-group.group ≡ groups (length job.tests.tests) = grind (
      arith,
      c.loop-group-test.false,
      c.loop-group.auto.group-end,
      c.div_ceil-group-end.ensures,
      c.blocks-2.ensures,
      count,
    ) in
    subst (λ n. AreAllAdded (c.args.fault + 1) (λ group i k. BlocksAtPlace job.circuit
    job.tests.tests f pins i (128 * group + k)) n c.args.counts.now c.loop-group.counts
    (rows_of c.args.rows.now) (rows_of c.loop-group.rows)) full (c.loop-group.invariant.added f at)
