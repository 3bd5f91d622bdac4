use Rattle.std.proofs.Common.{◌≡◌, ◌∙◌, refl}
use Rattle.job_loading.specs.Sums.{sum_text}
use Rattle.report.proofs.Public.{written_as}
use Rattle.command_line.specs.Form.{IsFormForSome, IsFormOfJob, NeedsSums, bench_sum, test_sum}
use Rattle.command_line.specs.Form.{tests_of, text_of}
use Rattle.command_line.proofs.WrittenForms.{needed_tests, same_form, written_form}
use Rattle.command_line.proofs.form_run.write_run.Goals as goal

pub returns-in-Ok-clause-written : goal.returns-in-Ok-clause-written
returns-in-Ok-clause-written g c =
    let job = c.in-Ok.made.whole in
    let form = c.args.form in
    let bench = c.args.inputs.bench.now in
    let b = bench_sum c.words_of-words.result in
    let t = test_sum c.words_of-words.result in
    let circuit = rw (c.in-Ok.is) at c.in_ok-made.ensures.circuit in
    let model = rw (c.in-Ok.is) at c.in_ok-made.ensures.model in
    let together = rw (c.in-Ok.is) at c.in_ok-made.ensures.together in
    let needed = rw (c.in-Ok.is) at c.in_ok-made.ensures.needed in
    let own = rw (c.in-Ok.is) at c.in_ok-made.ensures.bench in
    let same : NeedsSums form → b ≡ sum_text bench =
    λ needs. c.words_of-words.ensures.bench ∙ own (needed needs) in
    written_as (IsFormOfJob job b t form) (IsFormForSome c.args.inputs.model bench form)
    c.write_form_of_run-done.result _ _ (λ bytes of_job. (
      job,
      t,
      circuit,
      model,
      together,
      same_form job b t (sum_text bench) t form bytes same (λ _. refl) of_job,
    )) c.write_form_of_run-done.ensures

pub returns-in-Ok-clause-files : goal.returns-in-Ok-clause-files
returns-in-Ok-clause-files g c =
    let form = c.args.form in
    let bench = c.args.inputs.bench.now in
    let text = text_of g.F.Read.remaining c.args.inputs.tests in
    let b = bench_sum c.words_of-words.result in
    let t = test_sum c.words_of-words.result in
    let read = rw (c.in-Ok.is) at c.in_ok-made.ensures.job in
    let needed = rw (c.in-Ok.is) at c.in_ok-made.ensures.needed in
    let own = rw (c.in-Ok.is) at c.in_ok-made.ensures.bench in
    let tests = rw (c.in-Ok.is) at c.in_ok-made.ensures.tests in
    let same : NeedsSums form → b ≡ sum_text bench =
    λ needs. c.words_of-words.ensures.bench ∙ own (needed needs) in
    let other = needed_tests text form c.in-Ok.summed t (tests_of c.in-Ok.summed) tests
    c.words_of-words.ensures.tests needed in
    written_form c.args.inputs.model bench b t text form c.in-Ok.made.whole
    c.write_form_of_run-done.result _ _ read same other c.write_form_of_run-done.ensures
