use Rattle.std.proofs.Common.{◌≡◌, ◌<◌, ◌∙◌, ap, arith, false, get_or, length, sym}
use Rattle.std.specs.Prelude.{◌||◌}
use Rattle.compaction.{specs.Compaction.is_first, proofs.KeptTests.finds_more}
use Rattle.compaction.proofs.PushedElements.{written_over}
use Rattle.compaction.proofs.finding.marks_of.Goals as goal

pub loop-fault-preserved : goal.loop-fault-preserved
loop-fault-preserved c =
    let new = c.mark_test.new.marks in
    let firsts = c.args.verdicts.now.firsts in
    let so_far = c.loop-fault.invariant in
    let len : c.loop-fault.marks.len ≡ length new =
    sym (c.mark_test.auto.marks ∙ c.deref_mut.ensures.len) in
    let count : length new ≡ c.args.tests = c.mark_test.ensures.count
    ∙ (ap length c.deref_mut.ensures.value ∙ so_far.count) in
    rw (written_over c.loop-fault.marks.len new _ len) (record {
      count = count;
      each = λ t lt.
          let within : t < length c.deref_mut.result.now =
          omega (arith, lt, count, c.mark_test.ensures.count) in
          let before = ap (λ l. get_or l t false) c.deref_mut.ensures.value in
          c.mark_test.ensures.each t within
          ∙ (ap (λ b. b || is_first t c.first.result) (before ∙ so_far.each t lt)
          ∙ sym (finds_more firsts t c.loop-fault.fault c.first.result c.first.ensures));
    })
