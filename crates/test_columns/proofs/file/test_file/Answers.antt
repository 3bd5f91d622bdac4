use Rattle.std.proofs.Common.{◌≡◌, ◌∙◌, ◌++◌, ap, subst, sym}
use Rattle.patterns.specs.Tests.{HasTests}
use Rattle.test_columns.proofs.ShiftedRows.{tests_behind}
use Rattle.test_columns.proofs.file.test_file.Goals as goal

pub returns-clause-read : goal.returns-clause-read
returns-clause-read c = λ behind wide.
    let tests = c.args.tests.now in
    let line = c.args.line.items in
    let rows = c.in_ok-rows.rows.items in
    let joined : c.extend_from_slice.new.self.items ≡ line ++ rows =
    c.in_ok-extend_from_slice.ensures.items ∙ ap (λ l. line ++ l) c.deref.ensures.value in
    subst (λ text. HasTests text tests.width tests) (sym joined)
    (tests_behind rows (line ++ rows) tests.width tests (behind rows)
    (c.in_ok-rows.ensures.read wide))
