-- The outputs of a run.
use Rattle.std.specs.Prelude.{◌≡◌, ⊤, ℕ, List, [], Option, None, Some, string_bytes}
use Rattle.bench_net.specs.Refusal.{IsAccepted}
use Rattle.fault_model.specs.declared.Model.{Model}
use Rattle.block_coverage.specs.Blocks.{byte_of}
use Rattle.block_sim.specs.Parts.{BelongTogether, Parts}
use Rattle.job_loading.specs.declared.fault.SimFault.{SimFault}
use Rattle.job_loading.specs.declared.fault.SimFault.TheVariants as fault
use Rattle.job_loading.specs.Jobs.{IsJobOf}
use Rattle.job_loading.specs.Sums.{sum_text}
use Rattle.job_loading.specs.declared.sums.FileSums.{FileSums}
use Rattle.part_files.specs.PartText.{IsPartTextOfJob, head_with}
use Rattle.report.specs.Curve.{IsCurveOfJob}
use Rattle.report.specs.EndToEnd.{IsReportOfJob}
use Rattle.analysis_reports.specs.declared.compacted.KeptCount.{KeptCount}
use Rattle.analysis_reports.specs.declared.compacted.KeptLayout.{KeptLayout}
use Rattle.analysis_reports.specs.BlockingReports.{IsBlockingReportOfJob}
use Rattle.analysis_reports.specs.Blocks.{IsBlockReportOfJob}
use Rattle.analysis_reports.specs.Compacted.{IsKeptTextOfJob}
use Rattle.analysis_reports.specs.Detected.{IsDetectionReportOfJob}
use Rattle.analysis_reports.specs.Histogram.{IsHistogramReportOfJob}
use Rattle.analysis_reports.specs.Reasons.{IsReasonReportOfJob}
use Rattle.tables.specs.Views.{IsTableOfJob}
use Rattle.command_line.specs.declared.form.Form.{Form}
use Rattle.command_line.specs.declared.form.Form.TheVariants as form
use Rattle.command_line.specs.declared.form_run.Sums.{Sums}
use Rattle.command_line.specs.declared.form_run.TestFile.{TestFile}
use Rattle.command_line.specs.declared.form_run.TestFile.TheVariants.{Bytes, Pieces}

-- the bytes are the tests that a compaction of a job keeps
abbrev pub IsKeptOfJob : Parts → KeptLayout → List ℕ → Type 0
IsKeptOfJob job layout bytes = (count : KeptCount) × IsKeptTextOfJob job layout count bytes

-- the bytes are such an output of a job whose bench file and test file have these sums
abbrev pub IsFormOfJob : Parts → List ℕ → List ℕ → Form → List ℕ → Type 0
IsFormOfJob job bench tests (form.Report contents) bytes = IsReportOfJob job contents bytes
IsFormOfJob job bench tests (form.View view format) bytes = IsTableOfJob job view format bytes
IsFormOfJob job bench tests (form.Reasons classes) bytes = IsReasonReportOfJob job classes bytes
IsFormOfJob job bench tests (form.Blocks separator) bytes =
    IsBlockReportOfJob job (byte_of separator) bytes
IsFormOfJob job bench tests form.Blocking bytes = IsBlockingReportOfJob job bytes
IsFormOfJob job bench tests form.Curve bytes = IsCurveOfJob job bytes
IsFormOfJob job bench tests (form.Detections most list) bytes =
    IsDetectionReportOfJob job most list bytes
IsFormOfJob job bench tests (form.Histogram most list) bytes =
    IsHistogramReportOfJob job most list bytes
IsFormOfJob job bench tests (form.Kept layout) bytes = IsKeptOfJob job layout bytes
IsFormOfJob job bench tests (form.Part part) bytes =
    IsPartTextOfJob (head_with job.list.model bench tests part.part part.parts) job bytes

-- the output has the sums of the two files
abbrev pub NeedsSums : Form → Type 0
NeedsSums (form.Part part) = ⊤
NeedsSums _ = ⊥

-- the sums, if they are known
abbrev pub bench_sum : Option FileSums → List ℕ
bench_sum None = []
bench_sum (Some sums) = sums.bench.now

abbrev pub test_sum : Option FileSums → List ℕ
test_sum None = []
test_sum (Some sums) = sums.tests.now

-- the sums of the files of a run, if they were wanted
abbrev pub bench_of : Option Sums → List ℕ
bench_of None = []
bench_of (Some sums) = string_bytes sums.bench

abbrev pub tests_of : Option Sums → List ℕ
tests_of None = []
tests_of (Some sums) = string_bytes sums.tests

-- the bytes are such an output for a bench file and a test file under a model
abbrev pub IsFormOf : Model → List ℕ → List ℕ → Form → List ℕ → Type 0
IsFormOf m bench text form bytes =
    (job : Parts) × IsJobOf m bench text job
    × IsFormOfJob job (sum_text bench) (sum_text text) form bytes

-- the bytes are such an output for a bench file and some tests under a model
abbrev pub IsFormForSome : Model → List ℕ → Form → List ℕ → Type 0
IsFormForSome m bench form bytes = (job : Parts) × (tests : List ℕ) × IsAccepted bench job.circuit
    × (job.list.model ≡ m) × BelongTogether job
    × IsFormOfJob job (sum_text bench) tests form bytes

-- the bytes of a test file, if they are known: of a file that is read piece by piece, its reader
-- may say
abbrev pub text_of : {F : Type 0} → (F → Option (List ℕ)) → TestFile F → Option (List ℕ)
text_of remaining (Bytes bytes) = Some bytes.now
text_of remaining (Pieces file size) = remaining file

-- all bytes are given
abbrev pub AreBytes : {F : Type 0} → TestFile F → Type 0
AreBytes (Bytes bytes) = ⊤
AreBytes (Pieces file size) = ⊥

-- the error isn't one of the output
abbrev pub IsBeforeOutput : SimFault → Type 0
IsBeforeOutput (fault.Report f) = ⊥
IsBeforeOutput _ = ⊤
