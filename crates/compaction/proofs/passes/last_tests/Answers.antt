use Rattle.std.proofs.Common.{◌≡◌, ◌∙◌, ap, arith, get_or, length, subst, sym}
use Rattle.std.specs.{Prelude.vec_len, List.ReversedBelow}
use Rattle.fault_model.specs.declared.Model.TheVariants.{StuckAt}
use Rattle.compaction.specs.{Compaction.at_marks, Marks.{AreFinding, AreLastOf}}
use Rattle.compaction.proofs.KeptTests.{are_last}
use Rattle.compaction.proofs.passes.last_tests.Goals as goal

pub set_tests-requires-clause-width : goal.set_tests-requires-clause-width
set_tests-requires-clause-width g c = c.in_ok-reversed.ensures.width
    ∙ (c.requires.width ∙ c.requires.job.width)

pub returns-clause-last : goal.returns-clause-last
returns-clause-last g c =
    let job = c.args.run.now.whole in
    let given = c.args.given.now.numbers.items in
    let tests = c.args.given.now.tests.tests in
    let reversed = c.in_ok-reversed.reversed.tests in
    let found = c.in_ok-found.found.items in
    let marks = c.deref-2.result.now in
    let kept = c.in_ok-kept_tests.field-0 in
    let of_job = subst (λ p. AreFinding p.list.model p.circuit p.tests.tests found)
    c.in_ok-set_tests.ensures.tests c.in_ok-found.ensures.marks in
    let are : AreFinding StuckAt job.circuit reversed found =
    subst (λ m. AreFinding m job.circuit reversed found) c.requires.model of_job in
    let all : length found ≡ length tests = are.count ∙ c.in_ok-reversed.ensures.count in
    let len : vec_len c.in_ok-found.found ≡ length tests =
    omega (arith, all, c.in_ok-found.found.ok.0) in
    let long : length marks ≡ length tests =
    omega (arith, len, c.deref-2.ensures.len, c.reverse.ensures.len) in
    let back : ReversedBelow found marks (length tests) =
    λ k d lt. ap (λ xs. get_or xs k d) c.deref-2.ensures.value ∙ subst (λ n.
    ReversedBelow found c.reverse.new.self.items n) len c.reverse.ensures.by_index k d lt in
    let numbered = c.in_ok-kept_tests.ensures.numbers ∙ ap (at_marks marks) c.deref.ensures.value in
    subst (λ rows. AreLastOf job.circuit tests rows given kept.numbers.items)
    (sym c.in_ok-kept_tests.ensures.rows)
    (are_last job.circuit tests reversed found marks c.in_ok-reversed.ensures.count
    c.in_ok-reversed.ensures.rows are long back given kept.numbers.items numbered)
