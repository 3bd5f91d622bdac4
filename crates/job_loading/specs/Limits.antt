-- The limit of a job that is read from two files.
use Rattle.std.specs.Prelude.{◌≡◌, ⊤, ℕ, ◌≤◌, List}
use Rattle.fault_model.specs.declared.Model.{Model}
use Rattle.patterns.specs.Tests.{max_pieces}
use Rattle.block_sim.specs.Parts.{Parts, piece_count}
use Rattle.job_loading.specs.declared.fault.SimFault.{SimFault}
use Rattle.job_loading.specs.declared.runs.Limit.{Limit}
use Rattle.job_loading.specs.declared.runs.Limit.TheVariants as limit
use Rattle.bench_net.specs.Statement.{Statement}
use Rattle.patterns.specs.Tests.{TestList}
use Rattle.job_loading.specs.declared.fault.SimFault.TheVariants as fault
use Rattle.bench_net.specs.Refusal.{IsAccepted}
use Rattle.job_loading.specs.Jobs.{AreTestsFor, IsJobFault, IsJobOf, IsPiecesFault, IsReadFault}

-- a job is within the limit
abbrev pub IsWithinLimit : Limit → Parts → Type 0
IsWithinLimit limit.Pieces job = piece_count job ≤ max_pieces
IsWithinLimit limit.None job = ⊤

-- the job of a bench file and a test file under a model, within the limit
abbrev pub IsLimitedJob : Model → List ℕ → List ℕ → Limit → Parts → Type 0
IsLimitedJob m bench text l job = IsJobOf m bench text job × IsWithinLimit l job

-- The error of the files of such a job. The number of pieces counts only if it is limited.
abbrev pub IsLimitFault : Model → List ℕ → List ℕ → Limit → SimFault → Type 0
IsLimitFault m bench text limit.Pieces f = IsJobFault m bench text f
IsLimitFault m bench text limit.None f = IsReadFault bench text f

-- The error of such a job of a circuit and of tests: memory, or its number of pieces if it is
-- limited.
abbrev pub IsLimitFaultFor : Model → List Statement → TestList → Limit → SimFault → Type 0
IsLimitFaultFor m c tests limit.Pieces f = IsPiecesFault m c tests f
IsLimitFaultFor m c tests limit.None f = f ≡ fault.Memory

-- the error of such a job of an accepted bench file and of some tests for its circuit
abbrev pub IsLimitFaultForSome : Model → List ℕ → Limit → SimFault → Type 0
IsLimitFaultForSome m bench l f = (c : List Statement) × (tests : TestList)
    × IsAccepted bench c × AreTestsFor c tests × IsLimitFaultFor m c tests l f
