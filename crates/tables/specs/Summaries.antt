-- The bytes of the summary of a run.
use Rattle.std.specs.Prelude.{ℕ, ◌+◌, ◌-◌, ◌/◌, ◌%◌, Bool, true, false, List, [], ◌∷◌, ◌++◌}
use Rattle.std.specs.Prelude.{Option, Some, None, codes, decimal}
use Rattle.region_runs.specs.declared.watch.ReasonCounts.{ReasonCounts}
use Rattle.report.specs.declared.counts.RunCounts.{RunCounts}
use Rattle.report.specs.RunIdentity.{model_name}
use Rattle.table_rows.specs.Cells.{Number, Percent}
use Rattle.table_rows.specs.Table.{object}
use Rattle.tables.specs.declared.summary.Summary.{Summary}

abbrev pub truth_text : Bool → List ℕ
truth_text true = codes "true"
truth_text false = codes "false"

-- the first members: the version of the program, whether it was proved, the model, the sums of both
-- files, and the number of tests, each given as text
abbrev pub inputs_of : List ℕ → List ℕ → List ℕ → List ℕ → List ℕ → List ℕ → List ℕ
inputs_of version proved model bench tests count =
    codes "{\n\"version\":\"" ++ (version ++ (codes "\",\n\"proved\":" ++ (proved
    ++ (codes ",\n\"model\":\"" ++ (model ++ (codes "\",\n\"bench_sha256\":\"" ++ (bench
    ++ (codes "\",\n\"tests_sha256\":\"" ++ (tests ++ (codes "\",\n\"tests\":" ++ count))))))))))

-- a number, and how many of these are detected; the percentage is rounded down, and is 0 if the
-- number is 0
abbrev pub found_text : ℕ → ℕ → List ℕ
found_text detected total = object (codes "total" ∷ codes "detected" ∷ codes "undetected"
    ∷ codes "percent" ∷ []) (Number total ∷ Number detected ∷ Number (total - detected)
    ∷ Percent detected total ∷ [])

-- the faults and the classes
abbrev pub counts_text : RunCounts → List ℕ
counts_text counts = (codes ",\n\"faults\":" ++ found_text counts.detected counts.faults)
    ++ (codes ",\n\"classes\":" ++ found_text counts.detected_classes counts.classes)

-- the reasons, if the run writes them
abbrev pub reasons_text : Option ReasonCounts → List ℕ
reasons_text None = codes "null"
reasons_text (Some counts) = object (codes "no_path" ∷ codes "not_activated"
    ∷ codes "not_observed" ∷ []) (Number counts.no_path ∷ Number counts.not_activated
    ∷ Number counts.not_observed ∷ [])

-- a number of milliseconds as seconds with three decimals, or the word for a missing number
abbrev pub seconds_text : Option ℕ → List ℕ
seconds_text None = codes "null"
seconds_text (Some n) = decimal (n / 1000) ++ (codes "." ++ (48 + n % 1000 / 100)
    ∷ (48 + n % 1000 / 10 % 10) ∷ (48 + n % 1000 % 10) ∷ [])

-- the workers, the time, and the end
abbrev pub effort_text : ℕ → Option ℕ → List ℕ
effort_text workers milliseconds = codes ",\n\"workers\":" ++ (decimal workers
    ++ (codes ",\n\"seconds\":" ++ (seconds_text milliseconds ++ codes "\n}\n")))

-- the summary of a run as a JSON object, one member on each line
abbrev pub summary_text : Summary → List ℕ
summary_text s = inputs_of s.version.now (truth_text s.proved) (model_name s.model)
    s.sums.bench.now s.sums.tests.now (decimal s.counts.tests)
    ++ (counts_text s.counts ++ (codes ",\n\"reasons\":" ++ (reasons_text s.reasons
    ++ effort_text s.workers s.milliseconds)))
