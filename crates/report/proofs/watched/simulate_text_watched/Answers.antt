use Rattle.std.proofs.{Common.subst, lemmas.Result.err_from_is_err_and}
use Rattle.region_runs.specs.Refused.{IsFirstsFault}
use Rattle.report.specs.EndToEnd.{IsJobReportFault, IsReportByLedgers, IsReportOfByLedgers}
use Rattle.report.{specs.EndToEnd.IsWatchedFault, proofs.WatchedRuns.{read_refused, run_refused}}
use Rattle.report.proofs.ReportsOfTexts.{on_ok, refused_as, written_as, written_of_texts}
use Rattle.report.proofs.watched.simulate_text_watched.Goals as goal

pub returns-in_err-run-clause-refused : goal.returns-in_err-run-clause-refused
returns-in_err-run-clause-refused g c =
    let p = err_from_is_err_and c.from_residual.result c.from_residual.ensures.1 in
    rw (p.1, p.2) (read_refused c.args.model c.args.bench.now c.args.tests.now c.args.limit
    c.args.stretches c.args.workers (g.G.Gate.passing c.args.gate.now)
    (g.G.Gate.stops c.args.gate.now) _ c.in_err-run.ensures.refused)

pub returns-clause-written : goal.returns-clause-written
returns-clause-written g c =
    written_of_texts c.args.model c.args.bench.now c.args.tests.now c.args.contents
    c.in_ok-run.run'.whole c.write_report_of_run.result _ _ c.in_ok-run.ensures.job
    c.write_report_of_run.ensures.written

pub returns-clause-ledgers : goal.returns-clause-ledgers
returns-clause-ledgers g c =
    let job = c.in_ok-run.run'.whole in
    written_as (IsReportByLedgers job c.stretches-count.result c.args.workers c.args.contents)
    (IsReportOfByLedgers c.args.model c.args.bench.now c.args.tests.now c.args.stretches
    c.args.workers c.args.contents) c.write_report_of_run.result _ _ (λ bytes by. (
      job,
      c.in_ok-run.ensures.job,
      subst (λ n. IsReportByLedgers job n c.args.workers c.args.contents bytes)
          c.stretches-count.ensures.count by,
    )) c.write_report_of_run.ensures.ledgers

pub returns-clause-refused : goal.returns-clause-refused
returns-clause-refused g c =
    let job = c.in_ok-run.run'.whole in
    let passing = g.G.Gate.passing c.args.gate.now in
    let stops = g.G.Gate.stops c.args.gate.now in
    refused_as (IsJobReportFault c.args.workers
    (IsFirstsFault job c.stretches-count.result c.args.workers passing stops))
    (IsWatchedFault c.args.model c.args.bench.now c.args.tests.now c.args.limit c.args.stretches
    c.args.workers passing stops) c.write_report_of_run.result
    (λ f h. run_refused c.args.model c.args.bench.now c.args.tests.now c.args.limit
    c.args.stretches c.args.workers passing stops job
    (c.in_ok-run.ensures.job, c.in_ok-run.ensures.within) f
    (subst (λ n. IsJobReportFault c.args.workers (IsFirstsFault job n c.args.workers passing stops)
    f) c.stretches-count.ensures.count h)) c.write_report_of_run.ensures.refused

pub returns-clause-within : goal.returns-clause-within
returns-clause-within g c = on_ok _ c.write_report_of_run.result (
  c.in_ok-run.run'.whole,
  (c.in_ok-run.ensures.job, c.in_ok-run.ensures.within),
)
