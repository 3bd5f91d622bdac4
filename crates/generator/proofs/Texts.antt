-- Files that have a job within the limit of pieces only fail because memory is refused.
use Rattle.std.proofs.Common.{◌≡◌, ◌≢◌, ℕ, ◌*◌, ◌<◌, ◌≤◌, ◌++◌, Bool, List, length, refl, sym, ap}
use Rattle.std.{proofs.Common.{subst, ◌∙◌, ⊎_elim, arith}, specs.Prelude.{slice_get, ⊤}}
use Rattle.std.proofs.lemmas.List.{length-map}
use Rattle.bench_net.specs.{Statement.Statement, Scan.sources, Refusal.IsAccepted}
use Rattle.fault_model.specs.{declared.Model.Model, Fault.faults}
use Rattle.fault_model.specs.Collapse.{Collapsed, AreClassesOf}
use Rattle.patterns.specs.{Making.test_text, declared.TestFault.TestFault}
use Rattle.patterns.specs.Tests.{TestList, HasTests, IsTestList, IsTestRefusal, blocks, max_pieces}
use Rattle.patterns.specs.declared.TestFault.TheVariants as test_fault
use Rattle.block_sim.specs.declared.job.JobFault.TheVariants as job_fault
use Rattle.block_sim.specs.Parts.{Parts, BelongTogether, piece_count, with_tests}
use Rattle.workers.specs.{declared.RunFault.RunFault, Refused.IsRunFault, Stops.no_stop}
use Rattle.workers.specs.declared.RunFault.TheVariants as run_fault
use Rattle.job_loading.specs.declared.fault.{ReportFault.ReportFault, SimFault.SimFault}
use Rattle.job_loading.specs.Jobs.{IsJobOf}
use Rattle.job_loading.specs.declared.fault.SimFault.TheVariants as fault
use Rattle.report.specs.EndToEnd.{IsReportFault}
use Rattle.region_runs.specs.Refused.{IsOpenFault}
use Rattle.test_columns.specs.{Columns.columns_line, Files.file_text}
use Rattle.generator.specs.declared.{GeneratorFault.GeneratorFault, held.Held.Held}
use Rattle.generator.specs.Generated.{AreFewPieces, HasJob, IsFaultOfHeld, IsFaultOfRun}
use Rattle.generator.specs.Generated.{IsGeneratorFault}
use Rattle.generator.specs.declared.GeneratorFault.TheVariants as generator_fault

-- the laws of files: a bench file has one circuit, and a file with tests has no error
abbrev pub OneCircuit : Type 0
OneCircuit = (text : List ℕ) (c d : List Statement) → IsAccepted text c → IsAccepted text d → c ≡ d

abbrev pub NotBoth : Type 0
NotBoth = (text : List ℕ) (width : ℕ) (t : TestList) (f : TestFault) → HasTests text width t
    → ¬ IsTestRefusal text width f

-- a job has as many classes as any of its circuit
same_number : (m : Model) (c : List Statement) (classes others : Collapsed)
    → AreClassesOf m c classes → AreClassesOf m c others
    → length classes.representative ≡ length others.representative
same_number m c classes others are also =
    sym (length-map classes.representative (slice_get (faults m c)))
    ∙ ap length (are.representative ∙ sym also.representative)
    ∙ length-map others.representative (slice_get (faults m c))

-- all jobs of two files have as many pieces
same_pieces : OneCircuit → (m : Model) (bench text : List ℕ) (job other : Parts)
    → IsJobOf m bench text job → IsJobOf m bench text other → piece_count job ≡ piece_count other
same_pieces one_circuit m bench text job other is also =
    let same : job.circuit ≡ other.circuit = one_circuit bench _ _ is.0 also.0 in
    let first : AreClassesOf m job.circuit job.classes =
    subst (λ x. AreClassesOf x job.circuit job.classes) is.3 is.2.classes in
    let second : AreClassesOf m job.circuit other.classes =
    subst (λ x. AreClassesOf m x other.classes) (sym same)
    (subst (λ x. AreClassesOf x other.circuit other.classes) also.3 also.2.classes) in
    let number = same_number m job.circuit job.classes other.classes first second in
    let tests : length job.tests.tests ≡ length other.tests.tests =
    ap length (is.1.2 ∙ sym also.1.2) in
    ap (λ n. n * blocks (length job.tests.tests)) number
    ∙ ap (λ n. length other.classes.representative * blocks n) tests

-- an error of a run of a job within the limit of pieces is an error of a run of the search
run_refused : (job : Parts) (workers : ℕ) (f : RunFault) → piece_count job ≤ max_pieces
    → IsRunFault job workers ⊤ no_stop f → IsOpenFault workers f
run_refused job workers run_fault.NoWorkers few is = is
run_refused job workers run_fault.TooManyWorkers few is = is
run_refused job workers (run_fault.NoSuchMove index) few is = absurd is
run_refused job workers run_fault.TooManyPieces few is = absurd (omega (arith, few, is.2))
run_refused job workers run_fault.Memory few is = is
run_refused job workers run_fault.Threads few is = is
run_refused job workers (run_fault.Unfinished class block) few is = absurd (is.4 tt)

-- errors of files that have a job within the limit of pieces are errors of the search
pub report_refused : OneCircuit → NotBoth → (m : Model) (bench text : List ℕ) (workers : ℕ)
    (f : SimFault) → HasJob m bench text → ((g : ReportFault) → f ≢ fault.Report g)
    → IsReportFault m bench text workers f → IsFaultOfRun bench workers f
report_refused one_circuit not_both m bench text workers (fault.Bench f) has unwritten is = is
report_refused one_circuit not_both m bench text workers (fault.Tests f) (job, within) unwritten
    (c, accepted, why) =
    let same : job.circuit ≡ c = one_circuit bench _ _ within.0.0 accepted in
    ⊎_elim (λ (e : f ≡ test_fault.Memory). e)
    (λ (refused : IsTestRefusal text (length (sources c)) f).
    absurd (not_both text (length (sources c)) job.tests f
    (subst (λ x. HasTests text (length (sources x)) job.tests) same within.0.1) refused)) why
report_refused one_circuit not_both m bench text workers (fault.Order f) has unwritten is =
    absurd is
report_refused one_circuit not_both m bench text workers (fault.Job f) (job, within) unwritten
    is = ⊎_elim (λ (e : f ≡ job_fault.Memory). e)
    (λ (many : (other : Parts) × IsJobOf m bench text other × (max_pieces < piece_count other)).
    let same = same_pieces one_circuit m bench text job many.0 within.0 many.1 in
    absurd (omega (arith, same, within.1, many.2))) is
report_refused one_circuit not_both m bench text workers (fault.Run f) has unwritten
    (job, within, is) = run_refused job workers f within.1 is
report_refused one_circuit not_both m bench text workers (fault.Report f) has unwritten is =
    absurd (unwritten f refl)
report_refused one_circuit not_both m bench text workers fault.Memory has unwritten is = is

-- the tests that a job may take in place of its own, and their file, have a job
pub text_has_job : (m : Model) (bench text : List ℕ) (job : Parts) (best : TestList)
    → IsAccepted bench job.circuit → BelongTogether job → job.list.model ≡ m
    → best.width ≡ length (sources job.circuit) → IsTestList best
    → AreFewPieces (length job.classes.representative) (length best.tests)
    → HasTests text best.width best → HasJob m bench text
text_has_job m bench text job best accepted fit of_model width list few own = (
  with_tests job best,
  (
    (
      accepted,
      subst (λ n. HasTests text n best) width own,
      record {
        circuit = fit.circuit;
        list = fit.list;
        classes = fit.classes;
        tests = list;
        width = width;
      },
      of_model,
    ),
    few,
  ),
)

-- the line that names the columns, and the rows, are the file
pub file_is : (c own : List Statement) (tests : List (List Bool)) (line text : List ℕ) → own ≡ c
    → line ≡ columns_line (sources own) → text ≡ line ++ test_text tests → text ≡ file_text c tests
file_is c own tests line text same named joined =
    joined ∙ ap (λ l. l ++ test_text tests) (named ∙ ap (λ x. columns_line (sources x)) same)

-- an error of held inputs is one of the generator
pub held_refused : (bench : List ℕ) (c : List Statement) (held : List Held) (workers : ℕ)
    (f : GeneratorFault) → IsAccepted bench c → IsFaultOfHeld c held f
    → IsGeneratorFault bench held workers f
held_refused bench c held workers (generator_fault.Sim f) accepted is =
    subst (IsFaultOfRun bench workers) (sym is) tt
held_refused bench c held workers (generator_fault.Held f) accepted is = (c, accepted, is)
