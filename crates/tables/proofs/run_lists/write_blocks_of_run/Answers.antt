use Rattle.std.{proofs.Common.{ap, map}, specs.Prelude.is_some}
use Rattle.fault_model.specs.Fault.{FaultList}
use Rattle.block_coverage.specs.Blocks.{byte_of}
use Rattle.report.proofs.Public.{written_as}
use Rattle.tables.specs.Lists.{IsBlockTable, IsBlockTableOfJob}
use Rattle.analysis_reports.proofs.Public.{flags_counted}
use Rattle.tables.proofs.run_lists.write_blocks_of_run.Goals as goal

pub write_blocks-requires-clause-list : goal.write_blocks-requires-clause-list
write_blocks-requires-clause-list g c = rw (
  c.circuit.ensures.part,
  c.faults.ensures.part,
  c.job-job.ensures.list,
  c.job-job.ensures.circuit,
  c.in_ok-verdicts.ensures.kept,
) (ap (λ (l : FaultList). l.list) c.requires.job.list)

pub write_blocks-requires-clause-count : goal.write_blocks-requires-clause-count
write_blocks-requires-clause-count g c =
    let firsts = c.in_ok-verdicts.verdicts.firsts in
    rw (
      c.faults.ensures.part,
      c.job-job.ensures.list,
      c.in_ok-verdicts.ensures.kept,
      c.deref.ensures.value,
    ) (flags_counted c.args.run.now.whole firsts c.in_ok-detected.detected.items c.requires.job
    c.in_ok-verdicts.ensures.firsts c.in_ok-detected.ensures)

pub returns-clause-written : goal.returns-clause-written
returns-clause-written g c =
    let job = c.args.run.now.whole in
    let firsts = c.in_ok-verdicts.verdicts.firsts in
    let s = byte_of c.args.separator in
    let wrote = rw (
      c.circuit.ensures.part,
      c.faults.ensures.part,
      c.job-job.ensures.list,
      c.job-job.ensures.circuit,
      c.in_ok-verdicts.ensures.kept,
      c.deref.ensures.value,
      c.in_ok-detected.ensures,
    ) at c.write_blocks.ensures.written in
    written_as (IsBlockTable s c.args.format job.circuit job.list.list (map is_some firsts))
    (IsBlockTableOfJob job s c.args.format) c.write_blocks.result _ _
    (λ bytes is. (firsts, c.in_ok-verdicts.ensures.firsts, is)) wrote
