-- The results of a run of a job: a verdict for each fault, and, for the moves of an order file, its
-- errors.
use Rattle.std.proofs.Common.{◌≡◌, ◌<◌, ◌≤◌, ℕ, get_or, arith, refl, sym, ap, List, length, ◌∙◌}
use Rattle.std.{specs.Prelude.{Option, Some, nat_le, position}, proofs.lemmas.Bool.leb-true}
use Rattle.std.proofs.lemmas.List.{Elements.All-get_or, Quantifiers.position-Some}
use Rattle.fault_model.specs.declared.Model.{Model}
use Rattle.orders.{specs.Order.HasMoves, proofs.Public.All-has_moves}
use Rattle.block_sim.specs.Parts.{Parts, BelongTogether, piece_count}
use Rattle.workers.specs.{declared.RunFault.RunFault, Refused.IsScheduleFault}
use Rattle.workers.specs.Verdict.{AreFirsts, VerdictList}
use Rattle.workers.specs.declared.RunFault.TheVariants as run_fault
use Rattle.job_loading.specs.declared.fault.SimFault.TheVariants as fault
use Rattle.job_loading.specs.Jobs.{IsJobWithin}
use Rattle.region_runs.specs.RunJobs.{AreByLedgers}
use Rattle.report.specs.{declared.contents.Contents.Contents, Report.whole_report}
use Rattle.report.specs.EndToEnd.{IsReportByLedgers, IsReportOfJob, IsScheduleTextFault}

-- a run's verdicts are one for each fault of the job
pub verdicts_counted : (job : Parts) (firsts : List (Option ℕ)) → BelongTogether job
    → AreFirsts job.list.model job.circuit job.tests.tests firsts
    → length firsts ≡ length job.list.list
verdicts_counted job firsts together are = are.count ∙ sym (ap (λ l. length l.list) together.list)

-- the whole report of a run's verdicts is a report of the job
pub taken_of_job : (job : Parts) (contents : Contents) (firsts : List (Option ℕ))
    (IsTaken : List ℕ → Type 0) → AreFirsts job.list.model job.circuit job.tests.tests firsts
    → IsTaken (whole_report job.list.model job.circuit job.classes firsts contents)
    → (text : List ℕ) × IsReportOfJob job contents text × IsTaken text
taken_of_job job contents firsts IsTaken are taken = (
  whole_report job.list.model job.circuit job.classes firsts contents,
  (firsts, are, refl),
  taken,
)

-- so is the report of verdicts that ledgers handed out
pub taken_by_ledgers : (job : Parts) (stretches workers : ℕ) (contents : Contents) (v : VerdictList)
    (IsTaken : List ℕ → Type 0) → AreByLedgers job stretches workers v
    → IsTaken (whole_report job.list.model job.circuit job.classes v.firsts contents)
    → (text : List ℕ) × IsReportByLedgers job stretches workers contents text × IsTaken text
taken_by_ledgers job stretches workers contents v IsTaken by taken = (
  whole_report job.list.model job.circuit job.classes v.firsts contents,
  (v, by, refl),
  taken,
)

-- moves of an order file are all moves of workers of its number
no_other_worker : (order : List ℕ) (workers index : ℕ) (moves : List ℕ)
    → HasMoves order workers moves → position (λ worker. nat_le workers worker) moves ≡ Some index
    → ⊥
no_other_worker order workers index moves has at =
    let found = position-Some (λ worker. nat_le workers worker) moves index 0 at in
    let all = All-has_moves order workers moves has in
    let below = All-get_or (λ worker. worker < workers) moves index 0 found.0 all in
    let above : workers ≤ get_or moves index 0 = leb-true workers (get_or moves index 0) found.1 in
    omega (arith, below, above)

-- a run of the moves of an order file fails for its number of workers, or because memory is refused
pub schedule_fault : (m : Model) (bench text order : List ℕ) (workers : ℕ) (job : Parts)
    (moves : List ℕ) (f : RunFault) → IsJobWithin m bench text job → HasMoves order workers moves
    → IsScheduleFault (piece_count job) workers moves f
    → IsScheduleTextFault m bench text order workers (fault.Run f)
schedule_fault m bench text order workers job moves (run_fault.NoSuchMove index) within has refused
    = no_other_worker order workers index moves has refused.2
schedule_fault m bench text order workers job moves run_fault.NoWorkers within has refused =
    (job, moves, within, has, refused)
schedule_fault m bench text order workers job moves run_fault.TooManyWorkers within has refused =
    (job, moves, within, has, refused)
schedule_fault m bench text order workers job moves run_fault.TooManyPieces within has refused =
    (job, moves, within, has, refused)
schedule_fault m bench text order workers job moves run_fault.Memory within has refused =
    (job, moves, within, has, refused)
schedule_fault m bench text order workers job moves run_fault.Threads within has refused =
    absurd refused
schedule_fault m bench text order workers job moves (run_fault.Unfinished class block) within has
    refused = absurd refused
