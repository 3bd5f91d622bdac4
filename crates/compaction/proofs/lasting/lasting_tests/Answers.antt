use Rattle.std.proofs.Common.{◌≡◌, ◌∙◌, ap, arith, false, inl, inr, length, replicate, subst}
use Rattle.std.{proofs.Common.{refl, sym}, specs.Prelude.vec_len}
use Rattle.std.proofs.lemmas.Bool.{eqb-true}
use Rattle.bench_net.specs.Scan.{sources}
use Rattle.block_sim.specs.Parts.{Parts, with_tests}
use Rattle.compaction.specs.Turns.{AreLastFrom}
use Rattle.compaction.proofs.LastTests.{all_taken, next_less, none_yet}
use Rattle.compaction.proofs.PushedElements.{written_over}
use Rattle.compaction.proofs.lasting.lasting_tests.Goals.{else-loop-end-test}
use Rattle.compaction.proofs.lasting.lasting_tests.Goals.{then-loop-end-test+else-not-is_empty}
use Rattle.compaction.proofs.lasting.lasting_tests.Goals as goal

pub loop-end-init : goal.loop-end-init
loop-end-init g c =
    let p = c.args.run.now.whole in
    let all = c.args.tests.now in
    record {
      within = omega (arith, c.count-end.ensures);
      size = omega arith;
      job = refl;
      last = rw (c.count-end.ensures) (none_yet p all c.requires.job c.job.result.now
          c.in_ok-order.order.classes.items c.in_ok-marks.marks.items
          c.in_ok-order.ensures.classes c.job.ensures.classes
          (c.in_ok-marks.ensures.items_if_clones_equal (λ y e. e)
          ∙ ap (λ n. replicate n false) c.count.ensures));
    }

pub take_turn-requires-clause-width : goal.take_turn-requires-clause-width
take_turn-requires-clause-width g c = c.requires.width ∙ (c.requires.job.width
    ∙ ap (λ (p : Parts). length (sources p.circuit)) (sym c.loop-end.invariant.job))

pub loop-end-preserved : goal.loop-end-preserved
loop-end-preserved g c =
    let all = c.args.tests.now in
    let old = c.loop-end.marks in
    let new = c.take_turn.new.marks in
    let was = c.loop-end.invariant in
    let next = c.next_end-end.result in
    let left = c.in_ok-left.left.items in
    let len : old.len ≡ length new = sym (c.take_turn.auto.marks ∙ c.deref_mut.ensures.len) in
    let less = next_less c.start_of-start.result next c.loop-end.end c.loop-end.size was.size
    c.start_of-start.ensures.far c.loop-end-test.true c.next_end-end.ensures in
    let last = c.in_ok-left.ensures.last next c.next_end-end.ensures in
    rw (written_over old.len new _ len) (record {
      within = omega (arith, less, was.within);
      size = omega arith;
      job = c.in_ok-left.ensures.job
          ∙ ap (λ (q : Parts). with_tests q c.take_turn.new.run.whole.tests) was.job;
      last = subst (λ (q : Parts). AreLastFrom (with_tests q all) next left new) was.job last;
    })

pub returns-clause-marks : goal.returns-clause-marks
returns-clause-marks g c =
    all_taken c.args.run.now.whole c.args.tests.now c.requires.job c.loop-end.end
    c.loop-end.open.items c.loop-end.marks.items c.loop-end.invariant.last
    (elim c.loop-end-test.branch [
      | then-loop-end-test+else-not-is_empty w ↦
          let none = eqb-true (vec_len c.loop-end.open) 0
          (sym w.is_empty.ensures ∙ w.if-not-is_empty.false) in
          let count = c.loop-end.open.ok.0 in
          inr (omega (arith, none, count))
      | else-loop-end-test w ↦ inl (omega (arith, w.loop-end-test.false))
    ])
