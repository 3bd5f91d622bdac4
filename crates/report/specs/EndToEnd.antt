-- From the bytes read to the bytes written.
use Rattle.std.specs.Prelude.{◌≡◌, ◌⊎◌, ⊤, ℕ, ◌<◌, ◌≤◌, List, length, Option, Result}
use Rattle.std.specs.Prelude.{Ok, Err}
use Rattle.bench_net.specs.declared.BenchFault.TheVariants as bench_fault
use Rattle.bench_net.specs.Statement.{Statement}
use Rattle.bench_net.specs.Scan.{sources}
use Rattle.bench_net.specs.Refusal.{IsAccepted, IsRefused}
use Rattle.fault_model.specs.declared.Model.{Model}
use Rattle.fault_model.specs.Collapse.{Collapsed, AreClassesOf}
use Rattle.orders.specs.declared.OrderFault.TheVariants as order_fault
use Rattle.orders.specs.Order.{HasMoves, IsOrderRefusal}
use Rattle.patterns.specs.Tests.{TestList, HasTests}
use Rattle.block_sim.specs.Parts.{Parts, piece_count}
use Rattle.workers.specs.declared.RunFault.TheVariants as run_fault
use Rattle.workers.specs.declared.RunFault.{RunFault}
use Rattle.workers.specs.Refused.{IsRunFault}
use Rattle.workers.specs.Refused.{IsScheduleFault}
use Rattle.workers.specs.Stops.{Stops, no_stop}
use Rattle.workers.specs.Verdict.{AreFirsts, VerdictList}
use Rattle.region_runs.specs.Part.{stretches_of}
use Rattle.region_runs.specs.Refused.{IsFirstsFault}
use Rattle.job_loading.specs.declared.fault.SimFault.{SimFault}
use Rattle.job_loading.specs.declared.fault.SimFault.TheVariants as fault
use Rattle.job_loading.specs.declared.runs.Limit.{Limit}
use Rattle.job_loading.specs.Jobs.{IsInputFault, IsJobFault, IsJobOf, IsJobWithin, IsReadFault}
use Rattle.region_runs.specs.RunJobs.{AreByLedgers}
use Rattle.job_loading.specs.Limits.{IsLimitFault, IsLimitedJob}
use Rattle.byte_output.specs.Output.{Output, TakesAll, TakesFront}
use Rattle.report.specs.declared.contents.Contents.{Contents}
use Rattle.report.specs.Report.{whole_report, listing}

-- the bytes are the report of a bench file and a test file under a model: each fault has the first
-- test that detects it, or none
abbrev pub IsReportOf : Model → List ℕ → List ℕ → Contents → List ℕ → Type 0
IsReportOf m bench text contents bytes = (c : List Statement) × (tests : TestList)
    × (classes : Collapsed) × (firsts : List (Option ℕ)) × IsAccepted bench c
    × HasTests text (length (sources c)) tests × AreClassesOf m c classes
    × AreFirsts m c tests.tests firsts × (bytes ≡ whole_report m c classes firsts contents)

-- the bytes are the report of verdicts on a job that ledgers handed out in this number of stretches
abbrev pub IsReportByLedgers : Parts → ℕ → ℕ → Contents → List ℕ → Type 0
IsReportByLedgers job stretches workers contents bytes = (v : VerdictList)
    × AreByLedgers job stretches workers v
    × (bytes ≡ whole_report job.list.model job.circuit job.classes v.firsts contents)

-- the same for a bench file and a test file under a model, in the requested number of stretches, if
-- there is one
abbrev pub IsReportOfByLedgers : Model → List ℕ → List ℕ → Option ℕ → ℕ → Contents → List ℕ → Type 0
IsReportOfByLedgers m bench text stretches workers contents bytes = (job : Parts)
    × IsJobOf m bench text job
    × IsReportByLedgers job (stretches_of stretches job workers) workers contents bytes

-- the bytes are the listing of a bench file under a model
abbrev pub IsListingOf : Model → List ℕ → List ℕ → Type 0
IsListingOf m bench bytes = (c : List Statement) × (classes : Collapsed) × IsAccepted bench c
    × AreClassesOf m c classes × (bytes ≡ listing m c classes.class_of
    (length classes.representative))

-- the bytes are the listing of a circuit under a model
abbrev pub IsListingOfCircuit : Model → List Statement → List ℕ → Type 0
IsListingOfCircuit m c bytes = (classes : Collapsed) × AreClassesOf m c classes
    × (bytes ≡ listing m c classes.class_of (length classes.representative))

-- The bytes that a call wrote whose text is of this kind: the whole text, and nothing else; a
-- beginning of it, if the output failed; or nothing, after any other error.
abbrev pub WritesOneOf : (List ℕ → Type 0) → Result (Unit {0}) SimFault → Output → Output → Type 0
WritesOneOf IsText (Ok u) old new = (text : List ℕ) × IsText text × TakesAll old new text
WritesOneOf IsText (Err (fault.Report f)) old new = (text : List ℕ) × IsText text
    × TakesFront old new text
WritesOneOf IsText (Err _) old new = new ≡ old

-- The condition of each error of the listing. An error of memory or of the output is possible at
-- any time.
abbrev pub IsListingFault : List ℕ → SimFault → Type 0
IsListingFault bench (fault.Bench f) = (f ≡ bench_fault.Memory) ⊎ IsRefused bench f
IsListingFault bench fault.Memory = ⊤
IsListingFault bench (fault.Report f) = ⊤
IsListingFault bench _ = ⊥

-- the same for the listing or a table of a circuit or job that is already read
abbrev pub IsListFault : SimFault → Type 0
IsListFault fault.Memory = ⊤
IsListFault (fault.Report f) = ⊤
IsListFault _ = ⊥

-- The condition of each error of the report: the errors of its job, then of a run whose gate lets
-- every piece pass, then of the output.
abbrev pub IsReportFault : Model → List ℕ → List ℕ → ℕ → SimFault → Type 0
IsReportFault m bench text workers (fault.Run f) =
    (job : Parts) × IsJobWithin m bench text job × IsRunFault job workers ⊤ no_stop f
IsReportFault m bench text workers (fault.Report f) =
    (job : Parts) × IsJobWithin m bench text job × (0 < workers) × (workers ≤ 64)
IsReportFault m bench text workers f = IsJobFault m bench text f

-- The condition of each error of the report of a run that a gate watches: the errors of the two
-- files, within the limit, then of the run, then of the output. If the gate stopped workers, the
-- error names the class and the block for which the run waits, and the gate isn't one that lets
-- every piece pass.
abbrev pub IsWatchedFault : Model → List ℕ → List ℕ → Limit → Option ℕ → ℕ → Type 0 → Stops
    → SimFault → Type 0
IsWatchedFault m bench text l stretches workers passing stops (fault.Run f) =
    (job : Parts) × IsLimitedJob m bench text l job
    × IsFirstsFault job (stretches_of stretches job workers) workers passing stops f
IsWatchedFault m bench text l stretches workers passing stops (fault.Report f) =
    (job : Parts) × IsLimitedJob m bench text l job × (0 < workers) × (workers ≤ 64)
IsWatchedFault m bench text l stretches workers passing stops f = IsLimitFault m bench text l f

-- the order file has moves of this many workers
abbrev pub HasSomeMoves : List ℕ → ℕ → Type 0
HasSomeMoves order workers = (moves : List ℕ) × HasMoves order workers moves

-- The condition of each error of the report of a schedule. First come the errors of the bench file
-- and of the test file, then of the order file, then of the job. Last come the errors of a run of
-- moves that are all moves of workers of the run.
abbrev pub IsScheduleTextFault : Model → List ℕ → List ℕ → List ℕ → ℕ → SimFault → Type 0
IsScheduleTextFault m bench text order workers (fault.Order f) =
    (c : List Statement) × (tests : TestList)
    × IsAccepted bench c × HasTests text (length (sources c)) tests
    × ((f ≡ order_fault.Memory) ⊎ IsOrderRefusal order workers f)
IsScheduleTextFault m bench text order workers (fault.Job f) =
    HasSomeMoves order workers × IsJobFault m bench text (fault.Job f)
IsScheduleTextFault m bench text order workers fault.Memory = HasSomeMoves order workers
IsScheduleTextFault m bench text order workers (fault.Run (run_fault.NoSuchMove index)) = ⊥
IsScheduleTextFault m bench text order workers (fault.Run f) =
    (job : Parts) × (moves : List ℕ) × IsJobWithin m bench text job
    × HasMoves order workers moves × IsScheduleFault (piece_count job) workers moves f
IsScheduleTextFault m bench text order workers (fault.Report f) =
    (job : Parts) × IsJobWithin m bench text job
    × HasSomeMoves order workers × (0 < workers) × (workers ≤ 64)
IsScheduleTextFault m bench text order workers f = IsInputFault bench text f

-- the bytes are the report of a job
abbrev pub IsReportOfJob : Parts → Contents → List ℕ → Type 0
IsReportOfJob job contents bytes = (firsts : List (Option ℕ))
    × AreFirsts job.list.model job.circuit job.tests.tests firsts
    × (bytes ≡ whole_report job.list.model job.circuit job.classes firsts contents)

-- The condition of each error of the report of a job that is run in threads, by that of the errors
-- of its run: these, then those of the output.
abbrev pub IsJobReportFault : ℕ → (RunFault → Type 0) → SimFault → Type 0
IsJobReportFault workers IsFault (fault.Run f) = IsFault f
IsJobReportFault workers IsFault (fault.Report f) = (0 < workers) × (workers ≤ 64)
IsJobReportFault workers IsFault _ = ⊥

-- the same for another text that is made of the verdicts, for which memory may be refused
abbrev pub IsJobTextFault : ℕ → (RunFault → Type 0) → SimFault → Type 0
IsJobTextFault workers IsFault fault.Memory = ⊤
IsJobTextFault workers IsFault f = IsJobReportFault workers IsFault f

-- the same for a job with this many pieces that is run by moves
abbrev pub IsScheduleReportFault : ℕ → List ℕ → ℕ → SimFault → Type 0
IsScheduleReportFault pieces moves workers (fault.Run f) = IsScheduleFault pieces workers moves f
IsScheduleReportFault pieces moves workers (fault.Report f) = (0 < workers) × (workers ≤ 64)
IsScheduleReportFault pieces moves workers _ = ⊥
