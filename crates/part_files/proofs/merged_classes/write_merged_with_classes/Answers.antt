use Rattle.std.proofs.lemmas.Result.{err_from_is_err_and}
use Rattle.byte_output.proofs.Public.{takes_more, stopped_before, stopped_after}
use Rattle.report.specs.Report.{class_coverage_line}
use Rattle.part_files.proofs.merged_classes.write_merged_with_classes.Goals as goal

pub returns-in_err-write_merged : goal.returns-in_err-write_merged
returns-in_err-write_merged g c =
    let p = err_from_is_err_and c.from_residual.result c.from_residual.ensures.1 in
    rw (p.1)
    (stopped_before _ (class_coverage_line c.args.classes.now c.args.merged.now.firsts.items) _ _
    c.in_err-write_merged.ensures)

pub returns-in_err-put_coverage : goal.returns-in_err-put_coverage
returns-in_err-put_coverage g c =
    let p = err_from_is_err_and c.from_residual-in_err-put_coverage.result
    c.from_residual-in_err-put_coverage.ensures.1 in
    let covered = rw (
      c.detected_classes_in-detected.ensures,
      c.firsts.ensures,
      c.count.ensures,
    ) at c.in_err-put_coverage.ensures in
    rw (p.1) (stopped_after _ _ _ _ _ c.in_ok-write_merged.ensures covered)

pub returns : goal.returns
returns g c =
    let covered = rw (
      c.detected_classes_in-detected.ensures,
      c.firsts.ensures,
      c.count.ensures,
    ) at c.in_ok-put_coverage.ensures in
    takes_more _ _ _ _ _ c.in_ok-write_merged.ensures covered
