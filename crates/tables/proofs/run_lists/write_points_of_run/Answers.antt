use Rattle.std.proofs.Common.{◌≡◌, ◌∙◌, ap, length, map}
use Rattle.region_runs.specs.RunJobs.{RunView}
use Rattle.report.{proofs.Public.written_as, specs.Curve.curve}
use Rattle.workers.specs.Verdict.{detected_count}
use Rattle.table_rows.specs.{Cells.cell_in, Table.{head_in, table_text}}
use Rattle.tables.specs.{Lists.{IsCurveTableOfJob, curve_head, point_row}, Tables.coverage}
use Rattle.tables.proofs.Heads.{sums_same, table_of, tables_same}
use Rattle.tables.proofs.run_lists.write_points_of_run.Goals as goal

pub returns-clause-written : goal.returns-clause-written
returns-clause-written g c =
    let format = c.args.format in
    let job = c.args.run.now.whole in
    let firsts = c.in_ok-verdicts.verdicts.firsts in
    let found = detected_count firsts in
    let count = c.count.ensures ∙ ap (λ t. length t.tests) c.tests.ensures.tests
    ∙ ap (λ (r : RunView). length r.whole.tests.tests) c.in_ok-verdicts.ensures.kept in
    let points = curve (length job.tests.tests) firsts in
    let sums : map cell_in c.deref.result.now ≡ coverage found (length firsts) =
    ap (map cell_in) c.deref.ensures.value
    ∙ rw (c.detected.ensures, c.total-faults.ensures) at c.in_ok-sums.ensures in
    let head : head_in c.run_heading.result ≡ curve_head found (length firsts) =
    c.run_heading.ensures ∙ sums_same (curve_head found (length firsts)) _ _ sums in
    let same : c.deref-2.result.now ≡ points =
    c.deref-2.ensures.value ∙ (c.in_ok-points.ensures ∙ ap (λ n. curve n firsts) count) in
    let rows : map (point_row c.total-faults.result) c.deref-2.result.now
    ≡ map (point_row (length firsts)) points = ap (map (point_row c.total-faults.result)) same
    ∙ ap (λ n. map (point_row n) points) c.total-faults.ensures in
    written_as (λ bytes. bytes ≡ table_text format (table_of (head_in c.run_heading.result)
    (map (point_row c.total-faults.result) c.deref-2.result.now)))
    (IsCurveTableOfJob job format) c.write_rows.result _ _ (λ bytes is. (
      firsts,
      c.in_ok-verdicts.ensures.firsts,
      is ∙ ap (table_text format) (tables_same _ _ _ _ head rows),
    )) c.write_rows.ensures.written
