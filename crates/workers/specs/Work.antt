-- The work of a worker's seat on a job, and its end.
use Rattle.std.specs.Prelude.{◌≡◌, ◌<◌, ◌⊎◌, ℕ, true, count_by, List, [], ◌∷◌, ◌++◌, length}
use Rattle.std.specs.Prelude.{slice_get, Option, Some, None}
use Rattle.patterns.specs.declared.Outcome.{Outcome}
use Rattle.block_sim.specs.First.{IsTrueOutcome}
use Rattle.block_sim.specs.Parts.{Parts}
use Rattle.fault_ledger.specs.declared.Event.{Event}
use Rattle.fault_ledger.specs.declared.Shape.{Shape}
use Rattle.fault_ledger.specs.declared.Call.TheVariants as call
use Rattle.fault_ledger.specs.declared.Finish.TheVariants.{Finished, Waiting}
use Rattle.fault_ledger.specs.declared.Refusal.TheVariants.{NoEarlierHit}
use Rattle.fault_ledger.specs.declared.Reply.TheVariants.{Refused}
use Rattle.fault_ledger.specs.History.{History, piece_count, class_of, block_of, claims, held_by}
use Rattle.fault_ledger.specs.History.{ContinuesWithout, states_of}
use Rattle.fault_ledger.specs.Answer.{IsLegal, answer}
use Rattle.fault_ledger.specs.Settled.{finish, is_skipped}
use Rattle.fault_ledger.specs.Seats.{ClosedFace, Place, Sitter, closed_face}
use Rattle.workers.specs.declared.piece_worker.End.{End}
use Rattle.workers.specs.declared.piece_worker.End.TheVariants.{Exhausted, AllSettled, Stopped}
use Rattle.workers.specs.Settling.{AreSettled, shape_for}
use Rattle.workers.specs.Stops.{Stops}
use Rattle.workers.specs.Verdict.{VerdictList, verdicts}

-- the outcome is the true one of the piece that is held
abbrev pub GivesTrue : Parts → Shape → Option ℕ → Outcome → Type 0
GivesTrue job shape None o = ⊥
GivesTrue job shape (Some piece) o =
    IsTrueOutcome job.list.model job.circuit job.tests.tests
    (class_of shape piece) (block_of shape piece) o

-- the worker's drop of the piece that it holds failed because no earlier block was a hit, at a time
-- since its last event
abbrev pub WasNoDrop : Shape → ℕ → History → Type 0
WasNoDrop shape w h = (at : History) × ContinuesWithout w h at
    × (Refused NoEarlierHit ≡ answer shape at (call.Drop w))

-- This holds of each report of a worker among the newer events: of its outcome, and of the history
-- just before it.
abbrev pub EachReport : (Outcome → History → Type 0) → ℕ → History → History → Type 0
EachReport Holds w [] earlier = Unit {0}
EachReport Holds w (Event.Report u o ∷ newer) earlier =
    (u ≡ w → Holds o (newer ++ earlier)) × EachReport Holds w newer earlier
EachReport Holds w (_ ∷ newer) earlier = EachReport Holds w newer earlier

-- Each report of the worker among the newer events gives the true outcome of the piece that it
-- held, which the worker could not drop.
abbrev pub ReportsTruly : Parts → Shape → ℕ → History → History → Type 0
ReportsTruly job shape w newer earlier =
    EachReport (λ o h. GivesTrue job shape (held_by w h) o × WasNoDrop shape w h) w newer
    earlier

-- The history of a seat after its worker's work is legal and begins with its earlier one, and each
-- new report of the worker in it is true, of a piece that could not be dropped.
pub record Works (job : Parts) (old new : Sitter) : Type 0 where
  pub place : new.place ≡ old.place
  pub worker : new.worker ≡ old.worker
  pub newer : History
  pub begins : new.seen ≡ newer ++ old.seen
  pub legal : IsLegal old.place.shape new.seen
  pub truly : ReportsTruly job old.place.shape old.worker newer old.seen

-- a worker that its gate stopped holds the piece at which it was stopped
abbrev pub IsStopped : Shape → Stops → ℕ → History → Type 0
IsStopped shape stops w h = (piece : ℕ) × (held_by w h ≡ Some piece)
    × stops.may w (class_of shape piece) (block_of shape piece)

-- how a seat stands at each end of its work
abbrev pub EndsAs : Stops → Sitter → End → Type 0
EndsAs stops seat Exhausted =
    (seat.exhausted ≡ true) × (held_by seat.worker seat.seen ≡ None)
    × (claims seat.seen ≡ piece_count seat.place.shape)
EndsAs stops seat AllSettled =
    (held_by seat.worker seat.seen ≡ None)
    × AreSettled seat.place.shape seat.seen seat.place.shape.classes
EndsAs stops seat Stopped = IsStopped seat.place.shape stops seat.worker seat.seen

-- a seat whose worker was not stopped: it holds nothing, and all pieces are claimed or all
-- classes settled
pub record HasRested (seat : Sitter) : Type 0 where
  pub free : held_by seat.worker seat.seen ≡ None
  pub over : (claims seat.seen ≡ piece_count seat.place.shape)
      ⊎ AreSettled seat.place.shape seat.seen seat.place.shape.classes

-- The seat of a worker of a new ledger at the end: it came back, its history is legal, and each
-- report of the worker is true, of a piece that could not be dropped. The worker has rested or was
-- stopped; if its gate always lets pass, it has rested.
pub record Returns (job : Parts) (place : Place) (w : ℕ)
    (passing : Type 0)
    (stops : Stops) (seat : Sitter) : Type 0 where
  pub place_is : seat.place ≡ place
  pub worker_is : seat.worker ≡ w
  pub legal : IsLegal place.shape seat.seen
  pub truly : ReportsTruly job place.shape w seat.seen []
  pub rested : passing → HasRested seat
  pub ended : HasRested seat ⊎ IsStopped place.shape stops w seat.seen

-- all seats came back: one of each worker, by number
pub record AreBack (job : Parts) (place : Place) (passing : Type 0)
    (stops : Stops) (seats : List Sitter) : Type 0 where
  pub count : length seats ≡ place.shape.workers
  pub each : (w : ℕ) (seat : Sitter) → slice_get seats w ≡ Some seat
      → Returns job place w passing stops seat

-- each worker's reports in a history are true, of pieces that it could not drop
abbrev pub AllReportTruly : Parts → Shape → History → Type 0
AllReportTruly job shape h =
    (w : ℕ) → w < shape.workers → ReportsTruly job shape w h []

-- The end of a run: the closed ledger shows a legal and finished history of the job's ledger, in
-- which each report is true, of a piece that could not be dropped.
pub record HasRun (job : Parts) (workers : ℕ) (closed : ClosedFace) : Type
    0 where
  pub shape : closed.shape ≡ shape_for job workers
  pub history : History
  pub legal : IsLegal closed.shape history
  pub shows : closed ≡ closed_face closed.shape history
  pub finished : finish closed.shape history ≡ Finished
  pub truly : AllReportTruly job closed.shape history

-- The verdicts and the number of skipped pieces follow from some legal and finished history of the
-- job's ledger. Each report in it is true, of a piece that could not be dropped.
pub record IsOfHistory (job : Parts) (workers : ℕ) (v : VerdictList) : Type 0 where
  pub history : History
  pub legal : IsLegal (shape_for job workers) history
  pub finished : finish (shape_for job workers) history ≡ Finished
  pub truly : AllReportTruly job (shape_for job workers) history
  pub firsts : v.firsts ≡ verdicts (shape_for job workers) history job.classes.class_of
  pub skipped : v.skipped ≡ count_by is_skipped (states_of (shape_for job workers) history)

-- A run that its gate stopped waits for this class and block, by some legal history of the job's
-- ledger. Its reports are true, of pieces that could not be dropped. At its end each worker was
-- stopped, or all pieces are claimed.
pub record WaitsFor (job : Parts) (workers : ℕ) (stops : Stops)
    (class block : ℕ) : Type 0 where
  pub history : History
  pub legal : IsLegal (shape_for job workers) history
  pub truly : AllReportTruly job (shape_for job workers) history
  pub ended : (w : ℕ) → w < workers
      → IsStopped (shape_for job workers) stops w history
      ⊎ (claims history ≡ piece_count (shape_for job workers))
  pub waiting : finish (shape_for job workers) history ≡ Waiting class block
