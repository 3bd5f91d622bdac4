use Rattle.std.proofs.Common.{◌≡◌, ◌∙◌, ap, length, map, subst, sym}
use Rattle.fault_model.specs.Fault.{FaultList}
use Rattle.report.proofs.Public.{written_as}
use Rattle.table_rows.specs.Table.{table_text}
use Rattle.tables.{specs.FurtherColumns.{HaveCells, further_in}, proofs.TablesOfTexts.firsts_table}
use Rattle.tables.specs.Tables.{IsFirstTableOfJob, fault_table, first_values, values_in}
use Rattle.tables.proofs.FurtherCells.{columns_found, columns_have}
use Rattle.tables.proofs.run_faults.write_faults_of_run.Goals as goal

pub new-requires-clause-further : goal.new-requires-clause-further
new-requires-clause-further g c =
    let job = c.args.run.now.whole in
    let firsts = c.in_ok-verdicts.verdicts.firsts in
    let further = map further_in c.deref.result.now in
    let first = c.in_ok-verdicts.ensures.kept in
    let list = rw (c.in_ok-counts.ensures.kept, c.in_ok-reasons.ensures.kept, first) at
    c.job-job.ensures.list in
    let circuit = rw (c.in_ok-counts.ensures.kept, c.in_ok-reasons.ensures.kept, first) at
    c.job-job.ensures.circuit in
    let why = rw (first) at c.in_ok-reasons.ensures.reasons in
    let counts = rw (c.in_ok-reasons.ensures.kept, first) at c.in_ok-counts.ensures.counts in
    let all = columns_found job c.job-job.result.now firsts c.args.wanted _ _ _ further list
    circuit why counts c.classes_if-classes.ensures
    (ap (map further_in) c.deref.ensures.value ∙ c.in_ok-further.ensures) in
    let own = c.faults.ensures.part ∙ (list ∙ c.requires.job.list) in
    subst (λ (l : FaultList). HaveCells (length l.list) further) (sym own)
    (columns_have job firsts c.args.wanted further all)

pub returns-clause-written : goal.returns-clause-written
returns-clause-written g c =
    let format = c.args.format in
    let job = c.args.run.now.whole in
    let firsts = c.in_ok-verdicts.verdicts.firsts in
    let further = map further_in c.deref.result.now in
    let first = c.in_ok-verdicts.ensures.kept in
    let list = rw (c.in_ok-counts.ensures.kept, c.in_ok-reasons.ensures.kept, first) at
    c.job-job.ensures.list in
    let circuit = rw (c.in_ok-counts.ensures.kept, c.in_ok-reasons.ensures.kept, first) at
    c.job-job.ensures.circuit in
    let why = rw (first) at c.in_ok-reasons.ensures.reasons in
    let counts = rw (c.in_ok-reasons.ensures.kept, first) at c.in_ok-counts.ensures.counts in
    let all = columns_found job c.job-job.result.now firsts c.args.wanted _ _ _ further list
    circuit why counts c.classes_if-classes.ensures
    (ap (map further_in) c.deref.ensures.value ∙ c.in_ok-further.ensures) in
    let made = rw (c.circuit.ensures.part, c.faults.ensures.part, list, circuit) at
    c.in_ok-rows.ensures in
    let rows = c.in_ok-rows.rows in
    written_as (λ bytes. bytes ≡ table_text format (fault_table rows.circuit.now
    rows.list.now.list (values_in rows.column) rows.lines (map further_in rows.further.now)))
    (IsFirstTableOfJob job c.args.lines c.args.wanted format) c.write_rows_in_threads.result _ _
    (λ bytes is. firsts_table job firsts c.args.lines c.args.wanted further format
    c.requires.job.list c.in_ok-verdicts.ensures.firsts all bytes
    (is ∙ ap (table_text format) made)) c.write_rows_in_threads.ensures.written
