-- The errors of a run.
use Rattle.std.specs.Prelude.{◌≡◌, ◌<◌, ◌≤◌, ℕ, nat_le, List, All, Some, length, position}
use Rattle.patterns.specs.Tests.{blocks, max_pieces}
use Rattle.block_sim.specs.Parts.{Parts, piece_count}
use Rattle.workers.specs.declared.RunFault.{RunFault}
use Rattle.workers.specs.declared.RunFault.TheVariants.{NoWorkers, TooManyWorkers, NoSuchMove}
use Rattle.workers.specs.declared.RunFault.TheVariants.{TooManyPieces, Memory, Threads}
use Rattle.workers.specs.declared.RunFault.TheVariants.{Unfinished}
use Rattle.workers.specs.Stops.{Stops}
use Rattle.workers.specs.Work.{WaitsFor}

-- the error of a number of workers
abbrev pub IsWorkersFault : ℕ → RunFault → Type 0
IsWorkersFault workers NoWorkers = workers ≡ 0
IsWorkersFault workers TooManyWorkers = 64 < workers
IsWorkersFault workers _ = ⊥

-- The error of a schedule of a job with this number of pieces: for its number of workers, then for
-- the first of its moves whose worker is out of range, then for its pieces, and then for memory.
abbrev pub IsScheduleFault : ℕ → ℕ → List ℕ → RunFault → Type 0
IsScheduleFault pieces workers moves (NoSuchMove index) =
    (0 < workers) × (workers ≤ 64) × (position (λ worker. nat_le workers worker) moves ≡ Some index)
IsScheduleFault pieces workers moves TooManyPieces =
    (0 < workers) × (workers ≤ 64) × All (λ worker. worker < workers) moves
    × (max_pieces < pieces)
IsScheduleFault pieces workers moves Memory =
    (0 < workers) × (workers ≤ 64) × All (λ worker. worker < workers) moves
IsScheduleFault pieces workers moves fault = IsWorkersFault workers fault

-- The error of a run in threads: for its number of workers, then for its pieces, and then for
-- memory or a thread. A run whose gate always lets pass finishes. Else the error names the class
-- and the block for which the run waits.
abbrev pub IsRunFault : Parts → ℕ → Type 0 → Stops → RunFault → Type 0
IsRunFault job workers passing stops TooManyPieces =
    (0 < workers) × (workers ≤ 64) × (max_pieces < piece_count job)
IsRunFault job workers passing stops Memory = (0 < workers) × (workers ≤ 64)
IsRunFault job workers passing stops Threads = (0 < workers) × (workers ≤ 64)
IsRunFault job workers passing stops (Unfinished class block) =
    (0 < workers) × (workers ≤ 64)
    × (class < length job.classes.representative) × (block < blocks (length job.tests.tests))
    × (¬ passing) × WaitsFor job workers stops class block
IsRunFault job workers passing stops fault = IsWorkersFault workers fault
