use Rattle.std.{proofs.Common.{◌≡◌, ◌∙◌, ap, length, map, subst}, specs.Prelude.IfOk}
use Rattle.std.specs.List.{enumerate_from, flat_map}
use Rattle.analysis_reports.specs.{Detected.reached_count, Histogram.histogram}
use Rattle.table_rows.specs.{Cells.cell_in, Table.{head_in, table_text}}
use Rattle.tables.specs.{Lists.{count_row, histogram_head}, Tables.coverage}
use Rattle.tables.proofs.Heads.{sums_same, table_of, tables_same}
use Rattle.tables.proofs.run_lists.histogram_texts.Goals as goal

pub returns : goal.returns
returns c =
    let most = c.args.most in
    let counts = c.args.counts.now in
    let reached = reached_count most counts in
    let sums : map cell_in c.deref.result.now ≡ coverage reached (length counts) =
    ap (map cell_in) c.deref.ensures.value
    ∙ rw (c.count_reached.ensures, c.requires) at c.in_ok-sums.ensures in
    let head : head_in c.run_heading.result ≡ histogram_head reached (length counts) =
    c.run_heading.ensures ∙ sums_same (histogram_head reached (length counts)) _ _ sums in
    let rows : map count_row (enumerate_from 0 c.deref-2.result.now)
    ≡ map count_row (enumerate_from 0 (histogram most counts)) =
    ap (λ l. map count_row (enumerate_from 0 l))
    (c.deref-2.ensures.value ∙ c.in_ok-faults.ensures) in
    subst (λ t. IfOk c.table_texts.result (λ texts. flat_map (λ text. text.items) texts.items
    ≡ table_text c.args.format t)) (tables_same _ _ _ _ head rows) c.table_texts.ensures
