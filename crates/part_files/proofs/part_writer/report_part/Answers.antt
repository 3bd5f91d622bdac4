use Rattle.std.proofs.{Common.{◌∙◌, ap, length, refl, sym}, lemmas.Result.err_from_is_err_and}
use Rattle.fault_model.specs.Fault.{FaultList}
use Rattle.part_files.specs.PartText.{job_part_text, said_by}
use Rattle.part_files.proofs.part_writer.report_part.Goals as goal

pub write_part-requires : goal.write_part-requires
write_part-requires g c =
    let list = ap (λ (l : FaultList). l.list) c.requires.job.list in
    rw (
      c.circuit.ensures.part,
      c.faults.ensures.part,
      c.as_slice.ensures.value,
      c.job-job.ensures.list,
      c.job-job.ensures.circuit,
      c.in_ok-verdicts.ensures.kept,
    ) (record {
      list = list;
      count = c.in_ok-verdicts.ensures.verdicts.count ∙ sym (ap length list);
    })

pub returns-in_err-verdicts-clause-refused : goal.returns-in_err-verdicts-clause-refused
returns-in_err-verdicts-clause-refused g c =
    let p = err_from_is_err_and c.from_residual.result c.from_residual.ensures.1 in
    rw (p.1, p.2) c.in_err-verdicts.ensures.refused

pub returns-in_err-write_part-clause-written : goal.returns-in_err-write_part-clause-written
returns-in_err-write_part-clause-written g c =
    let p = err_from_is_err_and c.from_residual-in_err-write_part.result
    c.from_residual-in_err-write_part.ensures.1 in
    let job = c.args.run.now.whole in
    let verdicts = c.in_ok-verdicts.verdicts.items in
    let wrote = rw (
      c.circuit.ensures.part,
      c.faults.ensures.part,
      c.as_slice.ensures.value,
      c.job-job.ensures.list,
      c.job-job.ensures.circuit,
      c.in_ok-verdicts.ensures.kept,
    ) at c.in_err-write_part.ensures in
    rw (p.1, p.2) (
      job_part_text (said_by c.args.head.now) job.list.model job.circuit verdicts,
      (verdicts, c.in_ok-verdicts.ensures.verdicts, refl),
      wrote,
    )

pub returns-clause-written : goal.returns-clause-written
returns-clause-written g c =
    let job = c.args.run.now.whole in
    let verdicts = c.in_ok-verdicts.verdicts.items in
    let wrote = rw (
      c.circuit.ensures.part,
      c.faults.ensures.part,
      c.as_slice.ensures.value,
      c.job-job.ensures.list,
      c.job-job.ensures.circuit,
      c.in_ok-verdicts.ensures.kept,
    ) at c.in_ok-write_part.ensures in (
      job_part_text (said_by c.args.head.now) job.list.model job.circuit verdicts,
      (verdicts, c.in_ok-verdicts.ensures.verdicts, refl),
      wrote,
    )
