-- The texts of the coverage of blocks.
use Rattle.std.proofs.Common.{◌≡◌, ◌∙◌, ◌++◌, [], ◌∷◌, ℕ, Bool, List, ap, append_assoc, length}
use Rattle.std.{proofs.Common.{refl, map, sym}, specs.Prelude.{Option, codes, flat_map, is_some}}
use Rattle.std.proofs.lemmas.List.{length-map}
use Rattle.block_sim.specs.Parts.{BelongTogether, Parts}
use Rattle.block_coverage.specs.{declared.rows.BlockRow.BlockRow, Blocks.cells_in}
use Rattle.fault_model.specs.Fault.{FaultList}
use Rattle.workers.specs.Verdict.{AreFirsts}
use Rattle.report.specs.Report.{coverage_line}
use Rattle.analysis_reports.specs.Blocks.{block_line, blocks_text, flagged, row_line}

-- the line of a row from its pieces
pub line_pieces : (row : BlockRow) → (codes "block " ++ (row.name.now ++ (codes " " ++ [])))
    ++ coverage_line row.detected row.faults ≡ row_line row
line_pieces row = append_assoc (codes "block ") (row.name.now ++ (codes " " ++ []))
    (coverage_line row.detected row.faults)
    ∙ ap (λ t. codes "block " ++ t) (append_assoc row.name.now (codes " " ++ [])
    (coverage_line row.detected row.faults)
    ∙ ap (λ t. row.name.now ++ t) (append_assoc (codes " ") []
    (coverage_line row.detected row.faults)))

-- the lines of rows
lines_of : (rows : List BlockRow) → flat_map row_line rows ≡ flat_map block_line (map cells_in rows)
lines_of [] = refl
lines_of (row ∷ rows) = ap (λ t. row_line row ++ t) (lines_of rows)

pub text_of_rows : (flags : List Bool) (rows : List BlockRow) (detected faults : ℕ)
    → detected ≡ flagged flags → faults ≡ length flags
    → coverage_line detected faults ++ flat_map row_line rows
    ≡ blocks_text flags (map cells_in rows)
text_of_rows flags rows detected faults found all =
    ap (λ d. coverage_line d faults ++ flat_map row_line rows) found
    ∙ (ap (λ n. coverage_line (flagged flags) n ++ flat_map row_line rows) all
    ∙ ap (λ t. coverage_line (flagged flags) (length flags) ++ t) (lines_of rows))

-- as many flags as faults
pub flags_counted : (job : Parts) (firsts : List (Option ℕ)) (flags : List Bool)
    → BelongTogether job → AreFirsts job.list.model job.circuit job.tests.tests firsts
    → flags ≡ map is_some firsts → length flags ≡ length job.list.list
flags_counted job firsts flags together are is =
    ap length is ∙ (length-map firsts is_some ∙ (are.count
    ∙ sym (ap (λ (l : FaultList). length l.list) together.list)))
