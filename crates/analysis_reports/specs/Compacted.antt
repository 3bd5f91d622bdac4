-- The text of a compaction.
use Rattle.std.specs.Prelude.{◌≡◌, ℕ, List, ◌++◌, codes, decimal, flat_map, length, Result, Ok}
use Rattle.std.specs.Prelude.{Err}
use Rattle.bench_net.specs.Statement.{Statement}
use Rattle.fault_model.specs.Solution.{Test}
use Rattle.block_sim.specs.Parts.{Parts}
use Rattle.compaction.specs.Steepest.{IsOrdered}
use Rattle.test_columns.specs.Files.{file_text}
use Rattle.job_loading.specs.declared.fault.SimFault.{SimFault}
use Rattle.job_loading.specs.declared.fault.SimFault.TheVariants as fault
use Rattle.byte_output.specs.Output.{Output, TakesAll, TakesFront}
use Rattle.analysis_reports.specs.declared.compacted.KeptCount.{KeptCount}
use Rattle.analysis_reports.specs.declared.compacted.KeptForm.{KeptForm}
use Rattle.analysis_reports.specs.declared.compacted.KeptForm.TheVariants.{Numbers, Rows}
use Rattle.analysis_reports.specs.declared.compacted.KeptLayout.{KeptLayout}

-- the line of a number
abbrev pub number_line : ℕ → List ℕ
number_line n = decimal n ++ codes "\n"

-- the text of the kept tests: a test file that names its columns, or the number of each in the list
abbrev pub kept_text : KeptForm → List Statement → List Test → List ℕ → List ℕ
kept_text Rows c kept numbers = file_text c kept
kept_text Numbers c kept numbers = flat_map number_line numbers

-- the number of tests of a list that are kept
abbrev pub count_of : List Test → List Test → KeptCount
count_of tests kept = record { kept = length kept; all = length tests }

-- the bytes are the rows or numbers of a compaction of a job's tests, in an order; the count has
-- the numbers of kept tests and of all tests
abbrev pub IsKeptTextOfJob : Parts → KeptLayout → KeptCount → List ℕ → Type 0
IsKeptTextOfJob job layout count bytes = (kept : List Test) × (numbers : List ℕ)
    × IsOrdered layout.order job.list.model job.circuit job.tests.tests kept numbers
    × (count ≡ count_of job.tests.tests kept)
    × (bytes ≡ kept_text layout.form job.circuit kept numbers)

-- The bytes that a call wrote that returns a value beside a text of this kind: the whole text of
-- the value, and nothing else; a beginning of one, if the output failed; or nothing, after any
-- other error.
abbrev pub GivesOneOf : {X : Type 0} → (X → List ℕ → Type 0) → Result X SimFault → Output → Output
    → Type 0
GivesOneOf IsText (Ok x) old new = (text : List ℕ) × IsText x text × TakesAll old new text
GivesOneOf {X} IsText (Err (fault.Report f)) old new = (x : X) × (text : List ℕ) × IsText x text
    × TakesFront old new text
GivesOneOf IsText (Err _) old new = new ≡ old
