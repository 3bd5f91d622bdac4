use Rattle.std.proofs.{Common.length, lemmas.Result.err_from_is_err_and}
use Rattle.workers.specs.Verdict.{detected_count}
use Rattle.byte_output.proofs.Public.{takes_more, stopped_before, stopped_after}
use Rattle.report.specs.Report.{coverage_line}
use Rattle.part_files.proofs.ending.write_merged.Goals as goal

pub returns-in_err-put_names : goal.returns-in_err-put_names
returns-in_err-put_names g c =
    let p = err_from_is_err_and c.from_residual.result c.from_residual.ensures.1 in
    let wrote = rw (c.faults.ensures, c.firsts-firsts.ensures) at c.in_err-put_names.ensures in
    rw (p.1) (stopped_before _ (coverage_line (detected_count c.args.merged.now.firsts.items)
    (length c.args.merged.now.firsts.items)) _ _ wrote)

pub returns-in_err-put_coverage : goal.returns-in_err-put_coverage
returns-in_err-put_coverage g c =
    let p = err_from_is_err_and c.from_residual-in_err-put_coverage.result
    c.from_residual-in_err-put_coverage.ensures.1 in
    let wrote = rw (c.faults.ensures, c.firsts-firsts.ensures) at c.in_ok-put_names.ensures in
    let covered = rw (c.detected.ensures, c.total.ensures) at c.in_err-put_coverage.ensures in
    rw (p.1) (stopped_after _ _ _ _ _ wrote covered)

pub returns : goal.returns
returns g c =
    let wrote = rw (c.faults.ensures, c.firsts-firsts.ensures) at c.in_ok-put_names.ensures in
    let covered = rw (c.detected.ensures, c.total.ensures) at c.in_ok-put_coverage.ensures in
    takes_more _ _ _ _ _ wrote covered
