use Rattle.region_runs.proofs.WindowSteps.{tests_kept, tests_set}
use Rattle.region_runs.proofs.windows.forget_tests.Goals as goal

pub returns-in_err-give_tests-clause-kept : goal.returns-in_err-give_tests-clause-kept
returns-in_err-give_tests-clause-kept c =
    tests_kept (c.give_tests.new.self) c.args.job.now c.in_err-give_tests.ensures.kept

pub returns-clause-kept : goal.returns-clause-kept
returns-clause-kept c =
    tests_set (c.give_tests.new.self) c.args.job.now _ c.in_ok-give_tests.ensures.job
