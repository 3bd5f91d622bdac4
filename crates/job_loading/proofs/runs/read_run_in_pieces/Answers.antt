use Rattle.std.proofs.{Common.{length, subst}, lemmas.Option.IfSome_then}
use Rattle.bench_net.specs.Scan.{sources}
use Rattle.patterns.specs.Tests.{HasTests}
use Rattle.block_sim.specs.JobParts.{IsJobUnder}
use Rattle.job_loading.specs.{Jobs.IsJobOf, Limits.{IsLimitFault, IsLimitFaultFor}}
use Rattle.job_loading.proofs.JobsOfTexts.{job_of_texts, limit_fault}
use Rattle.job_loading.proofs.runs.read_run_in_pieces.Goals as goal

pub returns-in-Ok-clause-job : goal.returns-in-Ok-clause-job
returns-in-Ok-clause-job g c =
    let known = g.F.Read.remaining c.args.tests in
    let model = c.args.model in
    let bench = c.args.bench.now in
    let job = c.in_ok-job.job in
    let tests = c.in_ok-job.tests in
    let run = c.in-Ok.run'.whole in
    let of = rw (c.in-Ok.is) at c.run_within.ensures.job in
    IfSome_then known {P = λ text. HasTests text (length (sources job.circuit)) tests}
    {Q = λ text. IsJobOf model bench text run} c.in_ok-job.ensures.tests
    (λ text has. job_of_texts model bench text job.circuit tests run c.in_ok-job.ensures.circuit
    has (subst (λ m. IsJobUnder m job.circuit tests run) c.in_ok-job.ensures.model of))

pub returns-in-Err-clause-refused : goal.returns-in-Err-clause-refused
returns-in-Err-clause-refused g c =
    let known = g.F.Read.remaining c.args.tests in
    let model = c.args.model in
    let bench = c.args.bench.now in
    let limit = c.args.limit in
    let job = c.in_ok-job.job in
    let tests = c.in_ok-job.tests in
    let fault = c.in-Err.fault in
    let own = rw (c.in-Err.is) at c.run_within.ensures.refused in
    let refused = subst (λ m. IsLimitFaultFor m job.circuit tests limit fault)
    c.in_ok-job.ensures.model own in
    IfSome_then known {P = λ text. HasTests text (length (sources job.circuit)) tests}
    {Q = λ text. IsLimitFault model bench text limit fault} c.in_ok-job.ensures.tests
    (λ text has. limit_fault model bench text job.circuit tests limit
    c.in_ok-job.ensures.circuit has fault refused)
