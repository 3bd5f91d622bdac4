use Rattle.std.proofs.Common.{◌≡◌, ◌⊎◌, ◌+◌, ◌∙◌, ap, arith, false, get_or, length, rules, subst}
use Rattle.std.{proofs.Common.sym, specs.Prelude.{◌||◌, IfOk}}
use Rattle.fault_model.specs.declared.Model.TheVariants.{StuckAt, Transition, TransitionPairs}
use Rattle.patterns.{specs.Least.below, proofs.Public.length-below, specs.Tests.TestList}
use Rattle.block_sim.specs.Parts.{Parts}
use Rattle.region_runs.specs.RunJobs.{RunView}
use Rattle.compaction.{specs.Compaction.{IsNumbered, at_marks}, proofs.PushedElements.written_over}
use Rattle.compaction.specs.Marks.{AreLastOf, AreLastPairsOf, AreWithBefore}
use Rattle.compaction.proofs.KeptTests.{ok_as, pairs_numbered, stuck_numbered}
use Rattle.compaction.proofs.ElementsAtMarks.{as_many_marked, marked_few}
use Rattle.compaction.proofs.passes.compact_as_listed.Goals as goal

-- the tests of a job that is another one
tests_of : {tests : TestList} {job other : Parts} → tests ≡ job.tests → job ≡ other
    → tests ≡ other.tests
tests_of a same = a ∙ ap (λ (p : Parts). p.tests) same

pub kept_tests-requires-clause-numbers : goal.kept_tests-requires-clause-numbers
kept_tests-requires-clause-numbers g c = ap length (c.deref.ensures.value ∙ c.in_ok-numbers.ensures)
    ∙ (length-below c.count.result ∙ (c.count.ensures
    ∙ ap (λ t. length t.tests) (c.tests.ensures.tests ∙ sym c.tests-in-StuckAt.ensures.tests)))

pub last_tests-requires-clause-few : goal.last_tests-requires-clause-few
last_tests-requires-clause-few g c =
    let few = marked_few c.deref-in-StuckAt.result.now c.tests-in-StuckAt.result.now.tests in
    omega (
      arith,
      few,
      ap length c.in_ok-kept-in-StuckAt.ensures.rows,
      ap (λ t. length t.tests) c.tests-in-StuckAt.ensures.tests,
    )

pub last_tests-requires-clause-numbers : goal.last_tests-requires-clause-numbers
last_tests-requires-clause-numbers g c =
    let same = ap length (c.deref.ensures.value ∙ c.in_ok-numbers.ensures)
    ∙ (length-below c.count.result ∙ (c.count.ensures
    ∙ ap (λ t. length t.tests) (c.tests.ensures.tests ∙ sym c.tests-in-StuckAt.ensures.tests))) in
    let fact : length c.in_ok-kept-in-StuckAt.kept.numbers.items
    ≡ length c.in_ok-kept-in-StuckAt.kept.tests.tests =
    ap length c.in_ok-kept-in-StuckAt.ensures.numbers
    ∙ (as_many_marked c.deref-in-StuckAt.result.now c.deref.result.now
    c.tests-in-StuckAt.result.now.tests same
    ∙ sym (ap length c.in_ok-kept-in-StuckAt.ensures.rows)) in
    search rules

pub returns-in-StuckAt-clause-compacted : goal.returns-in-StuckAt-clause-compacted
returns-in-StuckAt-clause-compacted g c =
    let job = c.args.run.now.whole in
    let same = ap (λ (r : RunView). r.whole) c.in_ok-found.ensures.same in
    let found = c.in_ok-found.found.items in
    let kept = c.in_ok-kept-in-StuckAt.kept in
    let model : job.list.model ≡ StuckAt = sym (ap (λ l. l.model) (c.faults.ensures.part
    ∙ (c.job.ensures.list ∙ ap (λ (p : Parts). p.list) same)))
    ∙ (sym c.model.ensures ∙ c.in-StuckAt.is) in
    let count : c.count.result ≡ length job.tests.tests = c.count.ensures
    ∙ ap (λ t. length t.tests) (tests_of c.tests.ensures.tests same) in
    let all : c.deref.result.now ≡ below (length job.tests.tests) = c.deref.ensures.value
    ∙ (c.in_ok-numbers.ensures ∙ ap below count) in
    let marks : c.deref-in-StuckAt.result.now ≡ found = c.deref-in-StuckAt.ensures.value in
    let rows : kept.tests.tests ≡ at_marks found job.tests.tests =
    c.in_ok-kept-in-StuckAt.ensures.rows
    ∙ (ap (λ m. at_marks m c.tests-in-StuckAt.result.now.tests) marks
    ∙ ap (λ t. at_marks found t.tests) (tests_of c.tests-in-StuckAt.ensures.tests same)) in
    let given : kept.numbers.items ≡ at_marks found (below (length job.tests.tests)) =
    c.in_ok-kept-in-StuckAt.ensures.numbers
    ∙ (ap (λ m. at_marks m c.deref.result.now) marks ∙ ap (at_marks found) all) in
    ok_as (λ k. AreLastOf job.circuit kept.tests.tests k.tests.tests kept.numbers.items
    k.numbers.items) (λ k. IsNumbered job.list.model job.circuit job.tests.tests k.tests.tests
    k.numbers.items) c.last_tests.result
    (λ k last. stuck_numbered job.list.model job.circuit job.tests.tests kept.tests.tests
    k.tests.tests found kept.numbers.items k.numbers.items model c.in_ok-found.ensures.marks
    rows given last)
    (subst (λ (p : Parts). IfOk c.last_tests.result (λ k. AreLastOf p.circuit kept.tests.tests
    k.tests.tests kept.numbers.items k.numbers.items)) same c.last_tests.ensures.last)

pub kept_tests-requires-in-Transition-clause-numbers :
    goal.kept_tests-requires-in-Transition-clause-numbers
kept_tests-requires-in-Transition-clause-numbers g c =
    ap length (c.deref-in-Transition.ensures.value ∙ c.in_ok-numbers.ensures)
    ∙ (length-below c.count.result ∙ (c.count.ensures
    ∙ ap (λ t. length t.tests) (c.tests.ensures.tests ∙ sym c.tests-in-Transition.ensures.tests)))

pub last_pairs-requires-clause-numbers : goal.last_pairs-requires-clause-numbers
last_pairs-requires-clause-numbers g c =
    let same = ap length (c.deref-in-Transition.ensures.value ∙ c.in_ok-numbers.ensures)
    ∙ (length-below c.count.result ∙ (c.count.ensures
    ∙ ap (λ t. length t.tests) (c.tests.ensures.tests
    ∙ sym c.tests-in-Transition.ensures.tests))) in
    let fact : length c.in_ok-kept-in-Transition.kept.numbers.items
    ≡ length c.in_ok-kept-in-Transition.kept.tests.tests =
    ap length c.in_ok-kept-in-Transition.ensures.numbers
    ∙ (as_many_marked c.deref-in-Transition-2.result.now c.deref-in-Transition.result.now
    c.tests-in-Transition.result.now.tests same
    ∙ sym (ap length c.in_ok-kept-in-Transition.ensures.rows)) in
    search rules

pub returns-clause-compacted : goal.returns-clause-compacted
returns-clause-compacted g c =
    let job = c.args.run.now.whole in
    let same = ap (λ (r : RunView). r.whole) c.in_ok-found.ensures.same in
    let found = c.in_ok-found.found.items in
    let new = c.mark_before.new.marks in
    let kept = c.in_ok-kept-in-Transition.kept in
    let model : job.list.model ≡ c.model.result = sym (ap (λ l. l.model) (c.faults.ensures.part
    ∙ (c.job.ensures.list ∙ ap (λ (p : Parts). p.list) same))) ∙ sym c.model.ensures in
    let len : c.in_ok-found.found.len ≡ length new =
    sym (c.mark_before.auto.marks ∙ c.deref_mut.ensures.len) in
    let count : length new ≡ length found = c.mark_before.ensures.count
    ∙ ap length c.deref_mut.ensures.value in
    let marks : c.deref-in-Transition-2.result.now ≡ new = c.deref-in-Transition-2.ensures.value
    ∙ written_over c.in_ok-found.found.len new _ len in
    let before : AreWithBefore found new = record {
      count = count;
      each = λ t lt.
          c.mark_before.ensures.each t (omega (arith, lt, ap length c.deref_mut.ensures.value))
          ∙ ap (λ xs. get_or xs t false || get_or xs (t + 1) false) c.deref_mut.ensures.value;
    } in
    let tests : c.count.result ≡ length job.tests.tests = c.count.ensures
    ∙ ap (λ t. length t.tests) (tests_of c.tests.ensures.tests same) in
    let all : c.deref-in-Transition.result.now ≡ below (length job.tests.tests) =
    c.deref-in-Transition.ensures.value ∙ (c.in_ok-numbers.ensures ∙ ap below tests) in
    let rows : kept.tests.tests ≡ at_marks new job.tests.tests =
    c.in_ok-kept-in-Transition.ensures.rows
    ∙ (ap (λ m. at_marks m c.tests-in-Transition.result.now.tests) marks
    ∙ ap (λ t. at_marks new t.tests) (tests_of c.tests-in-Transition.ensures.tests same)) in
    let numbers : kept.numbers.items ≡ at_marks new (below (length job.tests.tests)) =
    c.in_ok-kept-in-Transition.ensures.numbers
    ∙ (ap (λ m. at_marks m c.deref-in-Transition.result.now) marks ∙ ap (at_marks new) all) in
    let either = subst (λ m. (m ≡ Transition) ⊎ (m ≡ TransitionPairs)) (sym model)
    c.in-Transition.is in
    ok_as (λ k. AreLastPairsOf job.list.model job.circuit kept.tests.tests k.tests.tests
    kept.numbers.items k.numbers.items) (λ k. IsNumbered job.list.model job.circuit job.tests.tests
    k.tests.tests k.numbers.items) c.last_pairs.result
    (λ k last. pairs_numbered job.list.model job.circuit job.tests.tests kept.tests.tests
    k.tests.tests found new kept.numbers.items k.numbers.items either c.in_ok-found.ensures.marks
    before rows numbers last)
    (subst (λ (p : Parts). IfOk c.last_pairs.result (λ k. AreLastPairsOf p.list.model p.circuit
    kept.tests.tests k.tests.tests kept.numbers.items k.numbers.items)) same
    c.last_pairs.ensures.last)
