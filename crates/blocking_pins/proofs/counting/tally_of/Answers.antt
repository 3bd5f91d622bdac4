use Rattle.std.proofs.Common.{◌≡◌, ◌<◌, ◌+◌, ◌*◌, ◌^◌, ◌∙◌, ℕ, ap, arith, length, subst, sym, Vec}
use Rattle.std.{proofs.Common.{Global, true, false}, specs.Vec.with_items}
use Rattle.std.{specs.Prelude.{All, Some, slice_get}, proofs.lemmas.List.length-map}
use Rattle.std.proofs.lemmas.Option.{slice_get-get_or}
use Rattle.patterns.specs.Tests.{TestList}
use Rattle.flat_circuit.specs.BlockSpans.{groups}
use Rattle.blocking_pins.specs.{declared.tally.Tally.Tally, Effects.IsFresh}
use Rattle.blocking_pins.specs.Counting.{AreAllAdded, BlocksAtPlace, IsTallyBelow}
use Rattle.blocking_pins.proofs.TallySteps.{detected_more, tally_none, tally_rows, undetected_more}
use Rattle.blocking_pins.proofs.VecRows.{rows_of, with_items_is}
use Rattle.blocking_pins.proofs.counting.tally_of.Goals.{then-not-detected-fault+in_ok-add_fault}
use Rattle.blocking_pins.proofs.counting.tally_of.Goals.{else-not-detected-fault}
use Rattle.list_lemmas.proofs.Places.{within_place}
use Rattle.fault_model.specs.Fault.{FaultList}
use Rattle.blocking_pins.proofs.counting.tally_of.Goals as goal

pub loop-fault-init : goal.loop-fault-init
loop-fault-init c =
    let job = c.args.job.now in
    let pins = c.args.pins.now.pins.items in
    let effect = c.in_ok-effect.ensures in
    let signals = c.signals.ensures.count in
    let long : c.len.result ≡ length pins = omega (
      arith,
      c.len.ensures,
      c.args.pins.now.pins.ok.0,
    ) in
    let count : length c.tests.result.now.tests ≡ length job.tests.tests =
    ap (λ (t : TestList). length t.tests) c.tests.ensures.part in
    let mapped = length-map c.in_ok-tally.tally.rows.items (λ (row : Vec ℕ Global). row.items) in
    let room : length (rows_of c.in_ok-tally.tally.rows.items)
    ≡ groups (length job.tests.tests) = grind (
      arith,
      mapped,
      c.in_ok-tally.ensures.groups,
      c.div_ceil.ensures,
      c.blocks-2.ensures,
      count,
    ) in
    record {
      tally = tally_none job pins c.in_ok-tally.tally.counts.items
          (rows_of c.in_ok-tally.tally.rows.items) (c.in_ok-tally.ensures.pins ∙ long) room
          c.in_ok-tally.ensures.none
          (subst (λ n. All (λ row. (length row ≡ n) × All (λ word. word ≡ 0) row)
          (rows_of c.in_ok-tally.tally.rows.items)) long c.in_ok-tally.ensures.rows);
      effect = record {
        overlay = (let e = effect.overlay in omega (arith, e, signals));
        waiting = (let e = effect.waiting in omega (arith, e, signals));
        same = effect.same;
        idle = effect.idle;
        none = effect.none;
      };
    }

pub add_fault-requires-clause-rows : goal.add_fault-requires-clause-rows
add_fault-requires-clause-rows c =
    subst (λ l. All (λ row. length row ≡ length c.args.pins.now.pins.items) (rows_of l))
    (sym c.deref_mut-then-not-detected-fault.ensures.value)
    (tally_rows c.args.job.now c.args.pins.now.pins.items c.loop-fault.fault
    c.loop-fault.tally.counts.items (rows_of c.loop-fault.tally.rows.items)
    c.loop-fault.invariant.tally)

pub loop-fault-preserved : goal.loop-fault-preserved
loop-fault-preserved c = elim c.if-not-detected-fault.branch [
  | then-not-detected-fault+in_ok-add_fault w ↦
      let job = c.args.job.now in
      let pins = c.args.pins.now.pins.items in
      let fault = c.loop-fault.fault in
      let old = c.loop-fault.tally in
      let list = ap (λ (l : FaultList). length l.list) c.faults.ensures.part in
      let lt : fault < length job.list.list = omega (
        arith,
        list,
        c.count-fault-end.ensures,
        c.loop-fault-test.true,
      ) in
      let few : fault + 1 < 2 ^ 32 = omega (
        arith,
        c.count-fault-end.type_inv,
        c.loop-fault-test.true,
      ) in
      let f = within_place job.list.list fault lt in
      let count = c.requires.detected.count in
      let low : fault < length c.args.detected.now = omega (arith, lt, count) in
      let flag : slice_get c.args.detected.now fault ≡ Some false =
      slice_get-get_or c.args.detected.now fault false low ∙ ap Some w.if-not-detected-fault.true in
      let none = c.requires.detected.none fault f.0 f.1 flag in
      let B : ℕ → ℕ → ℕ → Type 0 = λ group n k.
      BlocksAtPlace job.circuit job.tests.tests f.0 pins n (128 * group + k) in
      let after = w.add_fault.new.counts in
      let now = w.add_fault.new.rows in
      let added : AreAllAdded (fault + 1) B (groups (length job.tests.tests)) old.counts.items
      after (rows_of old.rows.items) (rows_of now) =
      subst (λ l. AreAllAdded (fault + 1) B (groups (length job.tests.tests)) l after
      (rows_of old.rows.items) (rows_of now)) w.deref_mut.ensures.value
      (subst (λ l. AreAllAdded (fault + 1) B (groups (length job.tests.tests))
      w.deref_mut.result.now after (rows_of l) (rows_of now))
      w.deref_mut-then-not-detected-fault.ensures.value
      (w.in_ok-add_fault.ensures.added f.0 f.1)) in
      let more = undetected_more job pins fault f.0 f.1 few old.counts.items
      (rows_of old.rows.items) c.loop-fault.invariant.tally none after (rows_of now) added in
      let one = length-map now (λ (row : Vec ℕ Global). row.items) in
      let two = length-map old.rows.items (λ (row : Vec ℕ Global). row.items) in
      let room = added.room in
      let size : length now ≡ length old.rows.items = omega (arith, one, two, room) in
      record {
        tally = subst (λ (t : Tally). IsTallyBelow job pins (fault + 1) t.counts.items
            (rows_of t.rows.items)) (sym w.tally-is)
            (subst (λ l. IsTallyBelow job pins (fault + 1) l
            (rows_of (with_items old.rows now).items))
            (sym (with_items_is old.counts after added.count))
            (subst (λ l. IsTallyBelow job pins (fault + 1) after (rows_of l))
            (sym (with_items_is old.rows now size)) more));
        effect = subst (IsFresh c.args.words.circuit.now.arranged) (sym w.effect-is)
            w.in_ok-add_fault.ensures.effect;
      }
  | else-not-detected-fault w ↦
      let job = c.args.job.now in
      let fault = c.loop-fault.fault in
      let list = ap (λ (l : FaultList). length l.list) c.faults.ensures.part in
      let lt : fault < length job.list.list = omega (
        arith,
        list,
        c.count-fault-end.ensures,
        c.loop-fault-test.true,
      ) in
      let few : fault + 1 < 2 ^ 32 = omega (
        arith,
        c.count-fault-end.type_inv,
        c.loop-fault-test.true,
      ) in
      let f = within_place job.list.list fault lt in
      let count = c.requires.detected.count in
      let low : fault < length c.args.detected.now = omega (arith, lt, count) in
      let flag : slice_get c.args.detected.now fault ≡ Some true =
      slice_get-get_or c.args.detected.now fault false low
      ∙ ap Some w.if-not-detected-fault.false in
      let found = c.requires.detected.found fault f.0 f.1 flag in
      record {
        tally = subst (λ (t : Tally). IsTallyBelow job c.args.pins.now.pins.items (fault + 1)
            t.counts.items (rows_of t.rows.items)) (sym w.tally-is)
            (detected_more job c.args.pins.now.pins.items fault f.0 f.1 few
            c.loop-fault.tally.counts.items (rows_of c.loop-fault.tally.rows.items)
            c.loop-fault.invariant.tally found.0 found.1);
        effect = subst (IsFresh c.args.words.circuit.now.arranged) (sym w.effect-is)
            c.loop-fault.invariant.effect;
      }
]

pub returns : goal.returns
returns c =
    let job = c.args.job.now in
    let count : length c.faults.result.now.list ≡ length job.list.list =
    ap (λ (l : FaultList). length l.list) c.faults.ensures.part in
    let full : c.loop-fault.fault ≡ length job.list.list = omega (
      arith,
      count,
      c.count-fault-end.ensures,
      c.loop-fault-test.false,
      c.loop-fault.auto.fault-end,
    ) in
    subst (λ n. IsTallyBelow job c.args.pins.now.pins.items n c.loop-fault.tally.counts.items
    (rows_of c.loop-fault.tally.rows.items)) full c.loop-fault.invariant.tally
