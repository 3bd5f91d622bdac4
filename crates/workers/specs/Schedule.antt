-- The history of a schedule.
use Rattle.std.specs.Prelude.{◌≡◌, ℕ, zero, suc, ◌*◌, Bool, true, false, nat_lt, List, [], ◌∷◌}
use Rattle.std.specs.Prelude.{◌++◌, count_by, Option, Some, None, if◌then◌else◌}
use Rattle.patterns.specs.Least.{Table, below}
use Rattle.block_sim.specs.First.{IsTrueTable}
use Rattle.block_sim.specs.Parts.{Parts}
use Rattle.fault_ledger.specs.declared.Shape.{Shape}
use Rattle.fault_ledger.specs.declared.Event.{Event}
use Rattle.fault_ledger.specs.declared.Event.TheVariants.{Claim, Report, Drop}
use Rattle.fault_ledger.specs.History.{History, claims, held_by, piece_count, class_of, block_of}
use Rattle.fault_ledger.specs.declared.Finish.TheVariants.{Finished}
use Rattle.fault_ledger.specs.Answer.{has_earlier_hit}
use Rattle.fault_ledger.specs.Settled.{finish}
use Rattle.workers.specs.Settling.{shape_for}
use Rattle.workers.specs.Verdict.{VerdictList, verdicts}

-- a move of a worker that holds this piece or nothing: a claim while there are pieces; a drop if it
-- is accepted, else a report of the table's outcome
abbrev pub move_holding : Table → Shape → History → ℕ → Option ℕ → History
move_holding table shape h w None = if nat_lt (claims h) (piece_count shape) then Claim w ∷ h else h
move_holding table shape h w (Some piece) =
    if has_earlier_hit shape h piece then Drop w ∷ h
    else Report w (table (class_of shape piece) (block_of shape piece)) ∷ h

abbrev pub move : Table → Shape → History → ℕ → History
move table shape h w = move_holding table shape h w (held_by w h)

-- the history after these moves
abbrev pub after_moves : Table → Shape → History → List ℕ → History
after_moves table shape h [] = h
after_moves table shape h (w ∷ moves) = after_moves table shape (move table shape h w) moves

-- all workers in turn, this many times
abbrev pub turns : ℕ → ℕ → List ℕ
turns workers zero = []
turns workers (suc n) = below workers ++ turns workers n

-- the history of a schedule: its moves, and then twice as many turns as there are pieces
abbrev pub schedule_history : Table → Shape → List ℕ → History
schedule_history table shape moves =
    after_moves table shape [] (moves ++ turns shape.workers (2 * piece_count shape))

abbrev pub is_drop : Event → Bool
is_drop (Drop w) = true
is_drop _ = false

-- the number of drops in a history
abbrev pub drops : History → ℕ
drops h = count_by is_drop h

-- the table has the true outcome of each class and block of the job
abbrev pub IsTableOf : Parts → Table → Type 0
IsTableOf job table = IsTrueTable job.list.model job.circuit job.tests.tests table

-- The verdicts follow from the schedule's history over a true table, which is finished, and the
-- number of skipped pieces is the number of its drops.
pub record IsScheduled (job : Parts) (workers : ℕ) (moves : List ℕ) (v : VerdictList) : Type 0 where
  pub table : Table
  pub is_true : IsTableOf job table
  pub finished : finish (shape_for job workers)
      (schedule_history table (shape_for job workers) moves) ≡ Finished
  pub firsts : v.firsts ≡ verdicts (shape_for job workers)
      (schedule_history table (shape_for job workers) moves) job.classes.class_of
  pub skipped : v.skipped ≡ drops (schedule_history table (shape_for job workers) moves)
