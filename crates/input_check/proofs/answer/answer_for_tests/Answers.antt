use Rattle.std.proofs.Common.{◌≡◌, ◌∙◌, ◌*◌, ◌<◌, ◌≤◌, ap, length, subst}
use Rattle.patterns.specs.Tests.{max_pieces}
use Rattle.block_sim.specs.Parts.{piece_count}
use Rattle.input_check.proofs.JobsOfAnswers.{is_made, made_job}
use Rattle.input_check.proofs.answer.answer_for_tests.Goals as goal

pub returns-in-Some : goal.returns-in-Some
returns-in-Some c =
    let m = c.args.model in
    let circuit = c.args.circuit.now in
    let tests = c.args.tests.now in
    let classes = c.in_ok-counts.ensures.classes in
    let job = made_job m circuit classes.0 tests in
    let taken = c.count_tests-taken.ensures in
    let many : c.count_tests-taken.result.pieces ≡ piece_count job = taken.pieces
    ∙ (ap (λ k. k * c.count_tests-taken.result.blocks) classes.2
    ∙ ap (λ k. length classes.0.representative * k) taken.blocks) in (
      job,
      is_made m circuit classes.0 tests classes.1 c.requires,
      record {
        past = subst (λ k. max_pieces < k) many c.in-Some.ensures.past;
        classes = c.in-Some.ensures.classes ∙ classes.2;
        blocks = c.in-Some.ensures.blocks ∙ taken.blocks;
        pieces = c.in-Some.ensures.pieces ∙ many;
      },
    )

pub returns-in_ok-warnings_of-in-None : goal.returns-in_ok-warnings_of-in-None
returns-in_ok-warnings_of-in-None c =
    let m = c.args.model in
    let circuit = c.args.circuit.now in
    let tests = c.args.tests.now in
    let classes = c.in_ok-counts.ensures.classes in
    let job = made_job m circuit classes.0 tests in
    let taken = c.count_tests-taken.ensures in
    let many : c.count_tests-taken.result.pieces ≡ piece_count job = taken.pieces
    ∙ (ap (λ k. k * c.count_tests-taken.result.blocks) classes.2
    ∙ ap (λ k. length classes.0.representative * k) taken.blocks) in (
      record { counts = c.in_ok-counts.ensures; most = c.tests_a_run.ensures; tests = taken },
      job,
      is_made m circuit classes.0 tests classes.1 c.requires,
      subst (λ k. k ≤ max_pieces) many c.in-None.ensures.none,
    )
