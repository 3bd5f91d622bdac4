-- The outputs of runs, from the files to the bytes.
use Rattle.std.proofs.Common.{◌≡◌, ◌∙◌, ◌⊎◌, List, ℕ, Option, Some, None, inl, inr, subst, sym}
use Rattle.std.specs.Prelude.{IfErr, IfOk, IfSome, IsSome, Result, Ok, Err}
use Rattle.byte_output.specs.Output.{Output}
use Rattle.bench_net.specs.Refusal.{IsAccepted}
use Rattle.fault_model.specs.declared.Model.{Model}
use Rattle.block_sim.specs.Parts.{Parts}
use Rattle.job_loading.specs.{declared.fault.SimFault.SimFault, Jobs.IsJobOf, Sums.sum_text}
use Rattle.job_loading.specs.declared.fault.SimFault.TheVariants as fault
use Rattle.report.{specs.EndToEnd.WritesOneOf, proofs.Public.written_as}
use Rattle.analysis_reports.specs.declared.compacted.{KeptCount.KeptCount, KeptLayout.KeptLayout}
use Rattle.analysis_reports.specs.Compacted.{GivesOneOf, IsKeptTextOfJob}
use Rattle.command_line.specs.declared.{form.Form.Form, form_run.Sums.Sums}
use Rattle.command_line.specs.Form.{IsFormOf, IsFormOfJob, IsKeptOfJob, NeedsSums}
use Rattle.command_line.specs.declared.form.Form.TheVariants as form

-- sums matter only to an output that has them
pub same_form : (job : Parts) (b t bench tests : List ℕ) (form : Form) (bytes : List ℕ)
    → (NeedsSums form → b ≡ bench) → (NeedsSums form → t ≡ tests)
    → IsFormOfJob job b t form bytes → IsFormOfJob job bench tests form bytes
same_form job b t bench tests (form.Report contents) bytes one other is = is
same_form job b t bench tests (form.View view format) bytes one other is = is
same_form job b t bench tests (form.Reasons classes) bytes one other is = is
same_form job b t bench tests (form.Blocks separator) bytes one other is = is
same_form job b t bench tests form.Blocking bytes one other is = is
same_form job b t bench tests form.Curve bytes one other is = is
same_form job b t bench tests (form.Detections most list) bytes one other is = is
same_form job b t bench tests (form.Histogram most list) bytes one other is = is
same_form job b t bench tests (form.Kept layout) bytes one other is = is
same_form job b t bench tests (form.Part part) bytes one other is =
    subst (λ x. IsFormOfJob job x tests (form.Part part) bytes) (one tt)
    (subst (λ x. IsFormOfJob job b x (form.Part part) bytes) (other tt) is)

-- the sum of the test file, to an output that has it
pub needed_tests : (text : Option (List ℕ)) (form : Form) (sums : Option Sums) (t own : List ℕ)
    → IfSome text (λ x. IsSome sums → own ≡ sum_text x) → t ≡ own
    → (NeedsSums form → IsSome sums) → IfSome text (λ x. NeedsSums form → t ≡ sum_text x)
needed_tests None form sums t own is same some = tt
needed_tests (Some x) form sums t own is same some = λ needs. same ∙ is (some needs)

-- the output for a job of files is the output for the files
pub written_form : (m : Model) (bench b t : List ℕ) (text : Option (List ℕ)) (form : Form)
    (job : Parts) (r : Result (Unit {0}) SimFault) (old new : Output)
    → IfSome text (λ x. IsJobOf m bench x job)
    → (NeedsSums form → b ≡ sum_text bench) → IfSome text (λ x. NeedsSums form → t ≡ sum_text x)
    → WritesOneOf (IsFormOfJob job b t form) r old new
    → IfSome text (λ x. WritesOneOf (IsFormOf m bench x form) r old new)
written_form m bench b t None form job r old new is one other w = is
written_form m bench b t (Some text) form job r old new is one other w =
    written_as (IsFormOfJob job b t form) (IsFormOf m bench text form) r old new (λ bytes of_job. (
      job,
      is,
      same_form job b t (sum_text bench) (sum_text text) form bytes one other of_job,
    )) w

-- the text of a failed compaction
pub kept_refused : (job : Parts) (layout : KeptLayout) (f : SimFault) (old new : Output)
    → GivesOneOf (IsKeptTextOfJob job layout) (Err f) old new
    → WritesOneOf (IsKeptOfJob job layout) (Err f) old new
kept_refused job layout (fault.Report f) old new w = (w.1, (w.0, w.2), w.3)
kept_refused job layout (fault.Bench f) old new w = w
kept_refused job layout (fault.Tests f) old new w = w
kept_refused job layout (fault.Order f) old new w = w
kept_refused job layout (fault.Job f) old new w = w
kept_refused job layout (fault.Run f) old new w = w
kept_refused job layout fault.Memory old new w = w
