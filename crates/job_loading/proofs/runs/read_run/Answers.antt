use Rattle.std.proofs.lemmas.Result.{IfErr-weaker, IfOk-weaker}
use Rattle.block_sim.specs.JobParts.{IsJobUnder}
use Rattle.job_loading.specs.{Jobs.IsJobOf, Limits.{IsLimitFault, IsLimitFaultFor}}
use Rattle.job_loading.proofs.JobsOfTexts.{job_of_texts, limit_fault}
use Rattle.job_loading.proofs.runs.read_run.Goals as goal

pub returns-clause-job : goal.returns-clause-job
returns-clause-job g c =
    let circuit = c.in_ok-circuit.circuit in
    let tests = c.in_ok-circuit.tests in
    IfOk-weaker c.run_for.result (λ run. IsJobUnder c.args.model circuit tests run.whole)
    (λ run. IsJobOf c.args.model c.args.bench.now c.args.tests.now run.whole)
    (λ run is. job_of_texts c.args.model c.args.bench.now c.args.tests.now circuit tests
    run.whole c.in_ok-circuit.ensures.circuit c.in_ok-circuit.ensures.tests is)
    c.run_for.ensures.job

pub returns-clause-refused : goal.returns-clause-refused
returns-clause-refused g c =
    let circuit = c.in_ok-circuit.circuit in
    let tests = c.in_ok-circuit.tests in
    IfErr-weaker c.run_for.result (IsLimitFaultFor c.args.model circuit tests c.args.limit)
    (IsLimitFault c.args.model c.args.bench.now c.args.tests.now c.args.limit)
    (limit_fault c.args.model c.args.bench.now c.args.tests.now circuit tests c.args.limit
    c.in_ok-circuit.ensures.circuit c.in_ok-circuit.ensures.tests) c.run_for.ensures.refused
