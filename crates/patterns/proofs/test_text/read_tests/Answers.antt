use Rattle.std.proofs.{Common.{◌≡◌, ◌⊎◌, [], sym, subst}, lemmas.Result.{IfErr-weaker, IfOk-weaker}}
use Rattle.patterns.specs.declared.TestFault.TheVariants as fault
use Rattle.text_lines.specs.Reading.{rows_left}
use Rattle.patterns.specs.LaterRows.{HasTestsAfter, IsRefusalAfter}
use Rattle.patterns.specs.Tests.{HasTests, IsTestList, IsTestRefusal}
use Rattle.patterns.proofs.OneAnswer.{has_tests_list}
use Rattle.patterns.proofs.CutTests.{HasTests-behind, HasTests-none, refused-behind}
use Rattle.patterns.proofs.test_text.read_tests.Goals as goal

pub returns-clause-tests : goal.returns-clause-tests
returns-clause-tests c =
    let text = c.args.text.now in
    let width = c.args.width in
    let left = rows_left c.new-rows.result in
    let none : HasTests [] width c.new-none.result =
    subst (HasTests [] width) (sym c.new-none.ensures.tests) (HasTests-none width) in
    IfOk-weaker c.read_rows.result (HasTestsAfter c.new-none.result left) (HasTests text width)
    (HasTests-behind text [] width c.new-none.result left none (sym c.new-rows.ensures))
    c.read_rows.ensures.tests

pub returns-clause-list : goal.returns-clause-list
returns-clause-list c =
    let text = c.args.text.now in
    let width = c.args.width in
    let left = rows_left c.new-rows.result in
    let none : HasTests [] width c.new-none.result =
    subst (HasTests [] width) (sym c.new-none.ensures.tests) (HasTests-none width) in
    IfOk-weaker c.read_rows.result (HasTestsAfter c.new-none.result left) IsTestList
    (λ t behind. has_tests_list text width t
    (HasTests-behind text [] width c.new-none.result left none (sym c.new-rows.ensures) t behind))
    c.read_rows.ensures.tests

pub returns-clause-refused : goal.returns-clause-refused
returns-clause-refused c =
    let text = c.args.text.now in
    let width = c.args.width in
    let left = rows_left c.new-rows.result in
    let none : HasTests [] width c.new-none.result =
    subst (HasTests [] width) (sym c.new-none.ensures.tests) (HasTests-none width) in
    IfErr-weaker c.read_rows.result
    (λ f. (f ≡ fault.Memory) ⊎ IsRefusalAfter c.new-none.result left f)
    (λ f. (f ≡ fault.Memory) ⊎ IsTestRefusal text width f)
    (refused-behind text [] width c.new-none.result left none (sym c.new-rows.ensures))
    c.read_rows.ensures.refused
