use Rattle.std.proofs.Common.{◌<◌, ◌∙◌, ◌++◌, ◌∷◌, [], ap, arith, get_or, length, subst, sym}
use Rattle.patterns.specs.Tests.{IsTestList}
use Rattle.compaction.proofs.ElementsAtMarks.{marked_below, marked_none, marked_one}
use Rattle.compaction.proofs.rows.marked_tests.Goals.{then-marks-test+in_ok-push_test}
use Rattle.compaction.proofs.rows.marked_tests.Goals.{else-marks-test}
use Rattle.compaction.proofs.rows.marked_tests.Goals as goal

pub push_test-requires-clause-room : goal.push_test-requires-clause-room
push_test-requires-clause-room c =
    let below = marked_below c.args.marks.now c.args.tests.now.tests c.loop-test.test in
    omega (
      arith,
      ap length c.loop-test.invariant.rows,
      below,
      c.loop-test-test.true,
      c.count-test-end.ensures,
      c.width.ensures.tests.count,
    )

pub loop-test-preserved : goal.loop-test-preserved
loop-test-preserved c =
    let tests = c.args.tests.now.tests in
    let t = c.loop-test.test in
    let lt : t < length tests = omega (arith, c.loop-test-test.true, c.count-test-end.ensures) in
    let in_marks : t < length c.args.marks.now = omega (arith, lt, c.requires) in
    elim c.if-marks-test.branch [
      | then-marks-test+in_ok-push_test w ↦ record {
        rows = ap (λ list. list.tests) w.kept-is ∙ (w.in_ok-push_test.ensures.rows
            ∙ (ap (λ rows. rows ++ get_or tests t [] ∷ []) c.loop-test.invariant.rows
            ∙ sym (marked_one c.args.marks.now tests t [] in_marks lt w.if-marks-test.true)));
        list = subst IsTestList (sym w.kept-is) w.in_ok-push_test.ensures.list;
        width = ap (λ list. list.width) w.kept-is
            ∙ (w.in_ok-push_test.ensures.width ∙ c.loop-test.invariant.width);
      }
      | else-marks-test w ↦ record {
        rows = ap (λ list. list.tests) w.kept-is ∙ (c.loop-test.invariant.rows
            ∙ sym (marked_none c.args.marks.now tests t in_marks w.if-marks-test.false));
        list = subst IsTestList (sym w.kept-is) c.loop-test.invariant.list;
        width = ap (λ list. list.width) w.kept-is ∙ c.loop-test.invariant.width;
      }
    ]
