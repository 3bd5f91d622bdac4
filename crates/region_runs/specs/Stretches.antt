-- Stretches that a shared ledger hands out to workers, and the workers' results.
use Rattle.std.specs.Prelude.{◌≡◌, ◌⊎◌, ◌<◌, ◌*◌, ℕ, max, min, List, [], ◌∷◌, length}
use Rattle.std.specs.Prelude.{slice_get, take, drop, All, Option, Some, None, Result, Ok, IfOk}
use Rattle.std.specs.declared.vec.Vec.{Vec}
use Rattle.patterns.specs.declared.Outcome.TheVariants as outcome
use Rattle.fault_ledger.specs.declared.Event.{Event}
use Rattle.fault_ledger.specs.declared.Shape.{Shape}
use Rattle.fault_ledger.specs.declared.PieceState.TheVariants.{Clear}
use Rattle.fault_ledger.specs.declared.Finish.TheVariants.{Finished}
use Rattle.fault_ledger.specs.declared.Reply.TheVariants as reply
use Rattle.fault_ledger.specs.History.{History, ContinuesWithout, claims, entry, held_by}
use Rattle.fault_ledger.specs.History.{piece_count}
use Rattle.fault_ledger.specs.Answer.{IsLegal}
use Rattle.fault_ledger.specs.Settled.{finish}
use Rattle.fault_ledger.specs.Seats.{ClosedFace, Makes, Place, Sitter, closed_face}
use Rattle.workers.specs.Stops.{Stops}
use Rattle.workers.specs.Work.{EachReport}
use Rattle.region_runs.specs.declared.stretch_run.Waiting.{Waiting}
use Rattle.region_runs.specs.declared.stretch_workers.Done.{Done}
use Rattle.region_runs.specs.declared.stretch_workers.Served.{Served}
use Rattle.region_runs.specs.StretchRuns.{AreDone}
use Rattle.region_runs.specs.Tasks.{AreKept, Task}
use Rattle.region_runs.specs.Part.{stretch_at, stretch_count}

-- the shape of a ledger of a number of stretches: each is a class of the ledger, with one block
abbrev pub shape_of_stretches : ℕ → ℕ → Shape
shape_of_stretches count workers = record { classes = count; tests = 64; workers = workers }

-- the number of workers for a number of stretches
abbrev pub crew_of : ℕ → ℕ → ℕ
crew_of workers stretches = max (min workers stretches) 1

-- A seat claimed this stretch: just before, it had seen this history, and the stretch is the number
-- of claims made.
pub record ClaimsStretch (old : Sitter) (stretch : ℕ) (new : Sitter) : Type 0 where
  pub before : History
  pub place : new.place ≡ old.place
  pub worker : new.worker ≡ old.worker
  pub newer : ContinuesWithout old.worker before old.seen
  pub seen : new.seen ≡ Event.Claim old.worker ∷ before
  pub legal : IsLegal old.place.shape new.seen
  pub number : stretch ≡ claims before
  pub within : stretch < old.place.shape.classes

-- a seat saw all stretches claimed
pub record SeesAllClaimed (old new : Sitter) : Type 0 where
  pub place : new.place ≡ old.place
  pub worker : new.worker ≡ old.worker
  pub newer : ContinuesWithout old.worker new.seen old.seen
  pub legal : IsLegal old.place.shape new.seen
  pub all : claims new.seen ≡ piece_count old.place.shape

-- the step of a seat after its worker ran the stretch that it holds: it reports it if no class
-- waits, else it still holds it
abbrev pub AfterRun : Sitter → Option Waiting → Sitter → Type 0
AfterRun old None new = Makes old (Event.Report old.worker outcome.Clear) reply.Done new
AfterRun old (Some waiting) new = new ≡ old

-- the state of a stretch in a history after a worker's result: it is reported if no class waits,
-- else the worker holds it
abbrev pub Stands : ℕ → History → ℕ → Option Waiting → Type 0
Stands w h stretch None = entry stretch h ≡ Clear
Stands w h stretch (Some waiting) = held_by w h ≡ Some stretch

-- the stretch is among the results
abbrev pub IsAmong : {K : Type 0} → List (Done K) → ℕ → Type 0
IsAmong {K} dones stretch = (k : ℕ) × (done : Done K) × (slice_get dones k ≡ Some done)
    × (done.stretch ≡ stretch)

-- this holds of the number of each claim of a worker in a history
abbrev pub EachClaim : (ℕ → Type 0) → ℕ → History → Type 0
EachClaim Holds w [] = Unit {0}
EachClaim Holds w (Event.Claim u ∷ h) = (u ≡ w → Holds (claims h)) × EachClaim Holds w h
EachClaim Holds w (_ ∷ h) = EachClaim Holds w h

-- The results of a worker account for its events in a history: each stretch that it claimed has a
-- result, and its state follows from that.
pub record Accounts {K : Type 0} (task : Task K) (size : ℕ) (classes : List ℕ) (w : ℕ)
    (passing : Type 0)
    (stops : Stops) (h : History) (dones : List (Done K)) : Type 0 where
  pub done : AreDone task size classes w passing stops dones
  pub stand : All (λ d. Stands w h d.stretch d.waiting) dones
  pub claimed : EachClaim (IsAmong dones) w h

-- the gate stopped the worker in one of these
abbrev pub IsStoppedIn : {K : Type 0} → List (Done K) → Type 0
IsStoppedIn {K} dones = (k : ℕ) × (done : Done K) × (slice_get dones k ≡ Some done)
    × (waiting : Waiting) × (done.waiting ≡ Some waiting)

-- how a worker ends: all stretches are claimed, or its gate stopped it
abbrev pub EndsServing : {K : Type 0} → Shape → History → List (Done K) → Type 0
EndsServing shape h dones = (claims h ≡ piece_count shape) ⊎ IsStoppedIn dones

-- The seat of a worker of a new ledger of stretches at the end: it came back, its history is legal,
-- and the worker's results account for it.
pub record HasServed {K : Type 0} (task : Task K) (size : ℕ) (classes : List ℕ) (place : Place)
    (w : ℕ)
    (passing : Type 0) (stops : Stops) (seat : Sitter) (dones : List (Done K)) : Type 0 where
  pub place_is : seat.place ≡ place
  pub worker_is : seat.worker ≡ w
  pub legal : IsLegal place.shape seat.seen
  pub accounts : Accounts task size classes w passing stops seat.seen dones
  pub ended : EndsServing place.shape seat.seen dones

-- all workers came back, one of each number, unless memory ran out
pub record AreServed {K E : Type 0} (task : Task K) (size : ℕ) (classes : List ℕ) (place : Place)
    (passing : Type 0) (stops : Stops) (back : List (Result (Served K) E)) : Type 0 where
  pub count : length back ≡ place.shape.workers
  pub each : (w : ℕ) (one : Result (Served K) E) → slice_get back w ≡ Some one
      → IfOk one (λ served. HasServed task size classes place w passing stops served.seat
      served.dones.items)

-- the two lists of what came back: the seats, and their workers' results
pub record AreApart {K E Z : Type 0} (back : List (Result (Served K) E)) (seats : List Sitter)
    (dones : List (Vec (Done K) Z)) : Type 0 where
  pub seats_count : length seats ≡ length back
  pub dones_count : length dones ≡ length back
  pub each : (k : ℕ) (seat : Sitter) (own : Vec (Done K) Z) → slice_get seats k ≡ Some seat
      → slice_get dones k ≡ Some own
      → (served : Served K) × (slice_get back k ≡ Some (Ok served)) × (seat ≡ served.seat)
      × (own.items ≡ served.dones.items)

-- The results of workers at a closed ledger of stretches: a legal history that it shows accounts
-- for all of them.
pub record AreShared {K Z : Type 0} (task : Task K) (size : ℕ) (classes : List ℕ) (shape : Shape)
    (passing : Type 0) (stops : Stops) (dones : List (Vec (Done K) Z))
    (closed : ClosedFace) : Type 0 where
  pub count : length dones ≡ shape.workers
  pub history : History
  pub legal : IsLegal shape history
  pub shows : closed ≡ closed_face shape history
  pub each : (w : ℕ) (own : Vec (Done K) Z) → slice_get dones w ≡ Some own
      → Accounts task size classes w passing stops history own.items
      × EndsServing shape history own.items

-- a report of a stretch stands for what is kept of its own classes
abbrev pub StandsFor : {K : Type 0} → Task K → ℕ → List ℕ → List K → Option ℕ → Type 0
StandsFor task size classes kept None = ⊥
StandsFor task size classes kept (Some stretch) =
    AreKept task (stretch_at size classes stretch) (take size (drop (stretch * size) kept))

-- What is kept of classes was found stretch by stretch: the closed ledger of these stretches shows
-- a legal and finished history, in which each report stands for what is kept of its stretch.
pub record AreByStretches {K : Type 0} (task : Task K) (size : ℕ) (classes : List ℕ)
    (workers : ℕ) (kept : List K) (closed : ClosedFace) : Type 0 where
  pub shape : closed.shape ≡ shape_of_stretches (stretch_count size classes)
      (crew_of workers (stretch_count size classes))
  pub history : History
  pub legal : IsLegal closed.shape history
  pub shows : closed ≡ closed_face closed.shape history
  pub finished : finish closed.shape history ≡ Finished
  pub reports : (w : ℕ)
      → EachReport (λ o h. StandsFor task size classes kept (held_by w h)) w history []
