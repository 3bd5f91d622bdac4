-- The errors of the report of a run that a gate watches, from the errors of its job.
use Rattle.std.specs.Prelude.{⊤, ℕ, List, Option, None, Result, IfErr}
use Rattle.fault_model.specs.declared.Model.{Model}
use Rattle.block_sim.specs.Parts.{Parts}
use Rattle.workers.specs.{declared.RunFault.RunFault, Refused.IsRunFault, Stops.{Stops, no_stop}}
use Rattle.workers.specs.declared.RunFault.TheVariants as run_fault
use Rattle.region_runs.specs.{Part.stretches_of, Refused.IsFirstsFault}
use Rattle.job_loading.specs.declared.{fault.SimFault.SimFault, runs.Limit.Limit}
use Rattle.job_loading.specs.Limits.{IsLimitFault, IsLimitedJob}
use Rattle.job_loading.specs.declared.fault.SimFault.TheVariants as fault
use Rattle.job_loading.specs.declared.runs.Limit.TheVariants as limit
use Rattle.report.specs.EndToEnd.{IsJobReportFault, IsReportFault, IsWatchedFault}
use Rattle.report.proofs.ReportsOfTexts.{refused_as}

-- an error of a run of a job of the files
pub run_refused : (m : Model) (bench text : List ℕ) (l : Limit) (stretches : Option ℕ)
    (workers : ℕ) (passing : Type 0) (stops : Stops) (job : Parts)
    → IsLimitedJob m bench text l job → (f : SimFault) → IsJobReportFault workers
    (IsFirstsFault job (stretches_of stretches job workers) workers passing stops) f
    → IsWatchedFault m bench text l stretches workers passing stops f
run_refused m bench text l stretches workers passing stops job of (fault.Run f) h = (job, of, h)
run_refused m bench text l stretches workers passing stops job of (fault.Report f) h =
    (job, of, h.0, h.1)
run_refused m bench text l stretches workers passing stops job of (fault.Bench f) h = absurd h
run_refused m bench text l stretches workers passing stops job of (fault.Tests f) h = absurd h
run_refused m bench text l stretches workers passing stops job of (fault.Order f) h = absurd h
run_refused m bench text l stretches workers passing stops job of (fault.Job f) h = absurd h
run_refused m bench text l stretches workers passing stops job of fault.Memory h = absurd h

-- errors of the files before they are run
pub read_refused : (m : Model) (bench text : List ℕ) (l : Limit) (stretches : Option ℕ)
    (workers : ℕ) (passing : Type 0) (stops : Stops) (f : SimFault) → IsLimitFault m bench text l f
    → IsWatchedFault m bench text l stretches workers passing stops f
read_refused m bench text limit.Pieces stretches workers passing stops (fault.Run f) h = absurd h
read_refused m bench text limit.Pieces stretches workers passing stops (fault.Report f) h = absurd h
read_refused m bench text limit.None stretches workers passing stops (fault.Run f) h = absurd h
read_refused m bench text limit.None stretches workers passing stops (fault.Report f) h = absurd h
read_refused m bench text l stretches workers passing stops (fault.Bench f) h = h
read_refused m bench text l stretches workers passing stops (fault.Tests f) h = h
read_refused m bench text l stretches workers passing stops (fault.Order f) h = h
read_refused m bench text l stretches workers passing stops (fault.Job f) h = h
read_refused m bench text l stretches workers passing stops fault.Memory h = h

-- a run in stretches whose gate lets every piece pass has the errors of a run
firsts_fault : (job : Parts) (stretches workers : ℕ) (f : RunFault)
    → IsFirstsFault job stretches workers ⊤ no_stop f → IsRunFault job workers ⊤ no_stop f
firsts_fault job stretches workers run_fault.NoWorkers h = h
firsts_fault job stretches workers run_fault.TooManyWorkers h = h
firsts_fault job stretches workers (run_fault.NoSuchMove index) h = h
firsts_fault job stretches workers run_fault.TooManyPieces h = absurd h
firsts_fault job stretches workers run_fault.Memory h = h
firsts_fault job stretches workers run_fault.Threads h = h
firsts_fault job stretches workers (run_fault.Unfinished class block) h = absurd (h.4 tt)

-- the errors of a run whose gate lets every piece pass are the errors of a run without a gate
pub open_fault : (m : Model) (bench text : List ℕ) (workers : ℕ) (f : SimFault)
    → IsWatchedFault m bench text limit.Pieces None workers ⊤ no_stop f
    → IsReportFault m bench text workers f
open_fault m bench text workers (fault.Run f) h =
    (h.0, h.1, firsts_fault h.0 (stretches_of None h.0 workers) workers f h.2)
open_fault m bench text workers (fault.Report f) h = h
open_fault m bench text workers (fault.Bench f) h = h
open_fault m bench text workers (fault.Tests f) h = h
open_fault m bench text workers (fault.Order f) h = h
open_fault m bench text workers (fault.Job f) h = h
open_fault m bench text workers fault.Memory h = h

-- the same for the result of a call
pub refused_open : (m : Model) (bench text : List ℕ) (workers : ℕ) (r : Result (Unit {0}) SimFault)
    → IfErr r (IsWatchedFault m bench text limit.Pieces None workers ⊤ no_stop)
    → IfErr r (IsReportFault m bench text workers)
refused_open m bench text workers r =
    refused_as (IsWatchedFault m bench text limit.Pieces None workers ⊤ no_stop)
    (IsReportFault m bench text workers) r (open_fault m bench text workers)
