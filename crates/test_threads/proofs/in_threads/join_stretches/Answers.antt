use Rattle.std.proofs.Common.{◌≡◌, ◌+◌, ◌<◌, ◌≤◌, ◌⊎◌, ◌∙◌, ap, arith, get_or, length, rules, subst}
use Rattle.std.{proofs.Common.{suc, sym, take}, specs.Vec.Iter.{into_iter_items, into_iter_len}}
use Rattle.std.proofs.lemmas.Result.{IfErr-weaker, IfOk-weaker}
use Rattle.patterns.specs.declared.TestFault.TheVariants as fault
use Rattle.text_lines.specs.Reading.{rows_left}
use Rattle.patterns.specs.LaterRows.{HasTestsAfter, IsRefusalAfter}
use Rattle.patterns.specs.Tests.{HasTests, IsTestList, IsTestRefusal, max_tests}
use Rattle.patterns.proofs.Public.{has_tests_list, HasTests-behind, refused-behind}
use Rattle.test_threads.specs.Stretches.{AreTestsBetween, HasStretch}
use Rattle.test_threads.proofs.CutTests.{HasTests-cut}
use Rattle.test_threads.proofs.in_threads.join_stretches.Goals as goal

pub loop-part-preserved-in_default-part : goal.loop-part-preserved-in_default-part
loop-part-preserved-in_default-part c =
    let was = c.loop-part.invariant in
    let step = c.in-Some.ensures.steps in
    record {
      left = λ k d lt.
          let h = was.left (suc k) d (omega (arith, lt, step.1)) in
          subst (HasStretch c.args.text.now c.args.width) (ap (λ l. get_or l (suc k) d) step.0) h;
      start = was.start;
      tests = was.tests;
    }

pub loop-part-preserved-then-stretch-place : goal.loop-part-preserved-then-stretch-place
loop-part-preserved-then-stretch-place c =
    let was = c.loop-part.invariant in
    let step = c.in-Some.ensures.steps in
    record {
      left = λ k d lt.
          let h = was.left (suc k) d (omega (arith, lt, step.1)) in
          subst (HasStretch c.args.text.now c.args.width) (ap (λ l. get_or l (suc k) d) step.0) h;
      start = was.start;
      tests = was.tests;
    }

pub append-requires-clause-width : goal.append-requires-clause-width
append-requires-clause-width c =
    let text = c.args.text.now in
    let width = c.args.width in
    let was = c.loop-part.invariant in
    let next : c.in-Some.part ≡ get_or (into_iter_items c.loop-part.part-iterator) 0 c.in-Some.part
    = grind rules in
    let some : 0 < into_iter_len c.loop-part.part-iterator = grind rules in
    let has : HasStretch text width c.in-Some.part =
    subst (HasStretch text width) (sym next) (was.left 0 c.in-Some.part some) in
    let own : AreTestsBetween text width c.in-Ok.stretch.start c.in-Ok.stretch.end
    c.in-Ok.stretch.tests = subst (HasStretch text width) c.in-Ok.is has in
    own.tests.1 ∙ sym was.tests.1

pub loop-part-preserved : goal.loop-part-preserved
loop-part-preserved c =
    let text = c.args.text.now in
    let width = c.args.width in
    let was = c.loop-part.invariant in
    let step = c.in-Some.ensures.steps in
    let stretch = c.in-Ok.stretch in
    let next : c.in-Some.part ≡ get_or (into_iter_items c.loop-part.part-iterator) 0 c.in-Some.part
    = grind rules in
    let some : 0 < into_iter_len c.loop-part.part-iterator = grind rules in
    let has : HasStretch text width c.in-Some.part =
    subst (HasStretch text width) (sym next) (was.left 0 c.in-Some.part some) in
    let own : AreTestsBetween text width stretch.start stretch.end stretch.tests =
    subst (HasStretch text width) c.in-Ok.is has in
    let here : stretch.start ≡ c.loop-part.place = omega arith in
    let between : AreTestsBetween text width c.loop-part.place stretch.end stretch.tests =
    subst (λ n. AreTestsBetween text width n stretch.end stretch.tests) here own in
    let room : length c.loop-part.all.tests + length stretch.tests.tests ≤ max_tests =
    search rules in
    record {
      left = λ k d lt.
          let h = was.left (suc k) d (omega (arith, lt, step.1)) in
          subst (HasStretch text width) (ap (λ l. get_or l (suc k) d) step.0) h;
      start = own.until;
      tests = subst (HasTests (take stretch.end text) width) (sym c.in_ok-append.ensures.appended)
          (HasTests-cut text width c.loop-part.place stretch.end c.loop-part.all stretch.tests
          was.start was.tests between room);
    }

pub returns-then-place-text-clause-list : goal.returns-then-place-text-clause-list
returns-then-place-text-clause-list c =
    has_tests_list (take c.loop-part.place c.args.text.now) c.args.width c.loop-part.all
    c.loop-part.invariant.tests

pub returns-clause-tests : goal.returns-clause-tests
returns-clause-tests c =
    let text = c.args.text.now in
    let width = c.args.width in
    let before = c.loop-part.all in
    let left = rows_left c.from_place-rows.result in
    IfOk-weaker c.read_rows.result (HasTestsAfter before left) (HasTests text width)
    (HasTests-behind text (take c.loop-part.place text) width before left
    c.loop-part.invariant.tests c.from_place-rows.ensures) c.read_rows.ensures.tests

pub returns-clause-list : goal.returns-clause-list
returns-clause-list c =
    let text = c.args.text.now in
    let width = c.args.width in
    let before = c.loop-part.all in
    let left = rows_left c.from_place-rows.result in
    IfOk-weaker c.read_rows.result (HasTestsAfter before left) IsTestList
    (λ t behind. has_tests_list text width t
    (HasTests-behind text (take c.loop-part.place text) width before left
    c.loop-part.invariant.tests c.from_place-rows.ensures t behind)) c.read_rows.ensures.tests

pub returns-clause-refused : goal.returns-clause-refused
returns-clause-refused c =
    let text = c.args.text.now in
    let width = c.args.width in
    let before = c.loop-part.all in
    let left = rows_left c.from_place-rows.result in
    IfErr-weaker c.read_rows.result (λ f. (f ≡ fault.Memory) ⊎ IsRefusalAfter before left f)
    (λ f. (f ≡ fault.Memory) ⊎ IsTestRefusal text width f)
    (refused-behind text (take c.loop-part.place text) width before left
    c.loop-part.invariant.tests c.from_place-rows.ensures) c.read_rows.ensures.refused
