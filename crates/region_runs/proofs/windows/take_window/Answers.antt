use Rattle.std.proofs.Common.{◌∙◌, [], ap, length, sym}
use Rattle.bench_net.specs.Scan.{sources}
use Rattle.block_sim.specs.Parts.{Parts, with_tests}
use Rattle.region_runs.proofs.WindowSteps.{tests_kept, tests_set}
use Rattle.region_runs.proofs.windows.take_window.Goals as goal

pub returns-in_err-spare-clause-kept : goal.returns-in_err-spare-clause-kept
returns-in_err-spare-clause-kept g c =
    tests_kept (c.give_words.new.self) c.args.job.now c.in_err-spare.ensures.kept

pub returns-in_err-some-clause-kept : goal.returns-in_err-some-clause-kept
returns-in_err-some-clause-kept g c = tests_set (c.give_words.new.self) c.args.job.now
    (record { width = c.args.job.now.tests.width; tests = [] }) c.in_ok-spare.ensures.job

pub returns-in_err-set_tests_over-clause-kept : goal.returns-in_err-set_tests_over-clause-kept
returns-in_err-set_tests_over-clause-kept g c = tests_set (c.set_tests_over.new.self) c.args.job.now
    (record { width = c.args.job.now.tests.width; tests = [] })
    (c.in_err-set_tests_over.ensures.kept ∙ c.in_ok-spare.ensures.job)

pub returns-clause-kept : goal.returns-clause-kept
returns-clause-kept g c = tests_set (c.set_tests_over.new.self) c.args.job.now c.in_ok-some.some
    (c.in_ok-set_tests_over.ensures.job
    ∙ ap (λ (j : Parts). with_tests j c.in_ok-some.some) c.in_ok-spare.ensures.job)

pub set_tests_over-requires-clause-width : goal.set_tests_over-requires-clause-width
set_tests_over-requires-clause-width g c = c.in_ok-some.ensures.width ∙ c.requires.width
    ∙ ap (λ (j : Parts). length (sources j.circuit)) (sym c.in_ok-spare.ensures.job)
