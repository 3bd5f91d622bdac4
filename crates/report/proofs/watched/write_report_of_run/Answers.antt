use Rattle.std.proofs.{Common.{◌∙◌, ap, length, sym}, lemmas.Result.err_from_is_err_and}
use Rattle.fault_model.specs.Fault.{FaultList}
use Rattle.byte_output.specs.Output.{TakesAll, TakesFront}
use Rattle.region_runs.specs.RunJobs.{RunView}
use Rattle.report.proofs.VerdictsOfRuns.{taken_by_ledgers, taken_of_job, verdicts_counted}
use Rattle.report.proofs.watched.write_report_of_run.Goals as goal

pub write_report_in_threads-requires : goal.write_report_in_threads-requires
write_report_in_threads-requires g c =
    let list = c.job.ensures.list
    ∙ ap (λ (r : RunView). r.whole.list) c.in_ok-verdicts.ensures.kept in
    record {
      count = verdicts_counted c.args.run.now.whole c.in_ok-verdicts.verdicts.firsts c.requires.job
          c.in_ok-verdicts.ensures.firsts ∙ sym (ap (λ (l : FaultList). length l.list) list);
    }

pub returns-in_err-write_report_in_threads-clause-written :
    goal.returns-in_err-write_report_in_threads-clause-written
returns-in_err-write_report_in_threads-clause-written g c =
    let p = err_from_is_err_and c.from_residual-in_err-write_report_in_threads.result
    c.from_residual-in_err-write_report_in_threads.ensures.1 in
    let wrote = rw (
      c.job.ensures.list,
      c.job.ensures.circuit,
      c.job.ensures.classes,
      c.in_ok-verdicts.ensures.kept,
    ) at c.in_err-write_report_in_threads.ensures in
    rw (p.1, p.2) (taken_of_job c.args.run.now.whole c.args.contents
    c.in_ok-verdicts.verdicts.firsts (TakesFront _ _) c.in_ok-verdicts.ensures.firsts wrote)

pub returns-clause-written : goal.returns-clause-written
returns-clause-written g c =
    let wrote = rw (
      c.job.ensures.list,
      c.job.ensures.circuit,
      c.job.ensures.classes,
      c.in_ok-verdicts.ensures.kept,
    ) at c.in_ok-write_report_in_threads.ensures in
    taken_of_job c.args.run.now.whole c.args.contents c.in_ok-verdicts.verdicts.firsts
    (TakesAll _ _) c.in_ok-verdicts.ensures.firsts wrote

pub returns-in_err-write_report_in_threads-clause-ledgers :
    goal.returns-in_err-write_report_in_threads-clause-ledgers
returns-in_err-write_report_in_threads-clause-ledgers g c =
    let p = err_from_is_err_and c.from_residual-in_err-write_report_in_threads.result
    c.from_residual-in_err-write_report_in_threads.ensures.1 in
    let wrote = rw (
      c.job.ensures.list,
      c.job.ensures.circuit,
      c.job.ensures.classes,
      c.in_ok-verdicts.ensures.kept,
    ) at c.in_err-write_report_in_threads.ensures in
    rw (p.1, p.2) (taken_by_ledgers c.args.run.now.whole c.args.stretches c.args.workers
    c.args.contents c.in_ok-verdicts.verdicts (TakesFront _ _) c.in_ok-verdicts.ensures.ledgers
    wrote)

pub returns-clause-ledgers : goal.returns-clause-ledgers
returns-clause-ledgers g c =
    let wrote = rw (
      c.job.ensures.list,
      c.job.ensures.circuit,
      c.job.ensures.classes,
      c.in_ok-verdicts.ensures.kept,
    ) at c.in_ok-write_report_in_threads.ensures in
    taken_by_ledgers c.args.run.now.whole c.args.stretches c.args.workers c.args.contents
    c.in_ok-verdicts.verdicts (TakesAll _ _) c.in_ok-verdicts.ensures.ledgers wrote
