use Rattle.std.{specs.Prelude.⊤, proofs.lemmas.Result.err_from_is_err_and}
use Rattle.region_runs.proofs.Public.{first_open, firsts_kept, passing_fault}
use Rattle.region_runs.specs.{StretchRuns.ListWaitsFor, Tasks.first_tests}
use Rattle.workers.specs.Stops.{no_stop}
use Rattle.generator.proofs.search.class_firsts.Goals as goal

pub run_list-requires-clause-wanted : goal.run_list-requires-clause-wanted
run_list-requires-clause-wanted g c κs within = first_open c.args.job.now

pub returns-clause-firsts : goal.returns-clause-firsts
returns-clause-firsts g c =
    firsts_kept c.args.job.now c.args.classes.now c.in_ok-firsts.firsts.items
    c.tests-tests.ensures.together c.requires.within c.in_ok-firsts.ensures.kept

pub returns-in_err-firsts-clause-refused : goal.returns-in_err-firsts-clause-refused
returns-in_err-firsts-clause-refused g c =
    let p = err_from_is_err_and c.from_residual.result c.from_residual.ensures.1 in
    rw (p.1, p.2) (passing_fault c.args.job.now c.args.workers ⊤
    (ListWaitsFor (first_tests c.args.job.now) c.args.classes.now c.args.workers no_stop) _ tt
    c.in_err-firsts.ensures.refused)
