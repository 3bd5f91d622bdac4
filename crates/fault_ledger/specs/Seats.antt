-- A shared ledger and its seats as clients see them, and the effect of a call on a seat.
use Rattle.std.specs.Prelude.{◌≡◌, ◌≢◌, ◌<◌, ◌≤◌, ℕ, Bool, true, false, List, [], ◌∷◌, All, map}
use Rattle.std.specs.Prelude.{slice_index_or, Option, Some, None}
use Rattle.atomic_table.specs.Seated.{TableId}
use Rattle.patterns.specs.Least.{below}
use Rattle.fault_ledger.specs.declared.Shape.{Shape}
use Rattle.fault_ledger.specs.declared.PieceState.{PieceState}
use Rattle.fault_ledger.specs.declared.PieceState.TheVariants.{Clear}
use Rattle.fault_ledger.specs.declared.Event.{Event}
use Rattle.fault_ledger.specs.declared.shared.Remembered.{Remembered}
use Rattle.fault_ledger.specs.declared.Refusal.TheVariants.{NoEarlierHit}
use Rattle.fault_ledger.specs.declared.Call.{Call}
use Rattle.fault_ledger.specs.declared.Call.TheVariants as call
use Rattle.fault_ledger.specs.declared.Reply.{Reply}
use Rattle.fault_ledger.specs.declared.Reply.TheVariants.{Refused}
use Rattle.fault_ledger.specs.History.{History, piece_count, piece_at, class_of, block_of, claims}
use Rattle.fault_ledger.specs.History.{held_by, entry, ContinuesWithout, states_of}
use Rattle.fault_ledger.specs.Answer.{answer, call_of, is_hit, IsLegal}
use Rattle.fault_ledger.specs.Settled.{AreClear}
use Rattle.fault_ledger.specs.Face.{shape_fault}

-- which shared ledger it is: its table of words, and its shape
pub record Place : Type 0 where
  pub table : TableId
  pub shape : Shape

-- a seat: its ledger, its worker, whether it has got Exhausted, and the history that it has seen
pub record Sitter : Type 0 where
  pub place : Place
  pub worker : ℕ
  pub exhausted : Bool
  pub seen : History

-- The invariant of a seat: its worker is one of the ledger's, and the history that it has seen is
-- legal. If it has got Exhausted, all pieces are claimed, and it holds none.
pub record IsSitter (a : Sitter) : Type 0 where
  pub limits : shape_fault a.place.shape ≡ None
  pub among : a.worker < a.place.shape.workers
  pub legal : IsLegal a.place.shape a.seen
  pub ended : a.exhausted ≡ true
      → (held_by a.worker a.seen ≡ None) × (claims a.seen ≡ piece_count a.place.shape)

-- the memory of a class is true in a history: the first `clear` blocks are Clear, and the next one
-- is a Hit if it is known to be
pub record Recalls (shape : Shape) (h : History) (class : ℕ) (known : Remembered) : Type 0 where
  pub clear : AreClear shape h class known.clear
  pub hit : known.hit ≡ true → is_hit (entry (piece_at shape class known.clear) h) ≡ true

abbrev pub nothing_seen : Remembered
nothing_seen = record { clear = 0; hit = false }

-- the memory of each class is true in the history that was seen
abbrev pub Remembers : Sitter → List Remembered → Type 0
Remembers a remembered = (class : ℕ)
    → Recalls a.place.shape a.seen class (slice_index_or remembered class nothing_seen)

-- the data of a seat beside its token
pub record IsSeated (a : Sitter) (worker : ℕ) (exhausted : Bool) (classes : ℕ) (piece : Option ℕ)
    (remembered : List Remembered) : Type 0 where
  pub sitter : IsSitter a
  pub worker_is : worker ≡ a.worker
  pub exhausted_is : exhausted ≡ a.exhausted
  pub classes_is : classes ≡ a.place.shape.classes
  pub piece_is : piece ≡ held_by a.worker a.seen
  pub remembers : Remembers a remembered

-- The clear blocks at the head of a class, below an end: this number, and then a block in this
-- state, which isn't Clear, or the end.
pub record EndsClear (shape : Shape) (h : History) (class end blocks : ℕ)
    (next : Option PieceState) : Type 0 where
  pub clear : AreClear shape h class blocks
  pub none : next ≡ None → end ≤ blocks
  pub some : (x : PieceState) → next ≡ Some x
      → (blocks < end) × (x ≢ Clear) × (entry (piece_at shape class blocks) h ≡ x)

-- the class and the block of a piece that is held
abbrev pub class_and_block : Shape → ℕ → ℕ × ℕ
class_and_block shape piece = (class_of shape piece, block_of shape piece)

-- the seat of the same worker at the same ledger, with this flag and this history
abbrev pub sitter_at : Sitter → Bool → History → Sitter
sitter_at old exhausted h = record {
  place = old.place;
  worker = old.worker;
  exhausted =
      exhausted;
  seen = h;
}

-- a seat of a new ledger, and the seats of all its workers, by number
abbrev pub newcomer : Place → ℕ → Sitter
newcomer place w = record { place = place; worker = w; exhausted = false; seen = [] }

abbrev pub newcomers : Place → List Sitter
newcomers place = map (newcomer place) (below place.shape.workers)

-- the seat's ledger, its worker and its flag are as before
abbrev pub Keeps : Sitter → Sitter → Type 0
Keeps old new = (new.place ≡ old.place) × (new.worker ≡ old.worker) × (new.exhausted
    ≡ old.exhausted)

-- No event of the seat: the history that it has seen afterwards is legal, begins with its earlier
-- one, and has no new event of its worker.
pub record Sees (old : Sitter) (exhausted : Bool) (new : Sitter) : Type 0 where
  pub seat : new ≡ sitter_at old exhausted new.seen
  pub newer : ContinuesWithout old.worker new.seen old.seen
  pub legal : IsLegal old.place.shape new.seen

-- One event of the seat. The history that it has seen afterwards is legal and ends with the event.
-- The history just before the event begins with its earlier one and has no new event of its worker,
-- and the reply is the sequential fault list's after it.
pub record Makes (old : Sitter) (e : Event) (reply : Reply) (new : Sitter) : Type 0 where
  pub before : History
  pub seat : new ≡ sitter_at old old.exhausted (e ∷ before)
  pub newer : ContinuesWithout old.worker before old.seen
  pub legal : IsLegal old.place.shape (e ∷ before)
  pub replied : reply ≡ answer old.place.shape before (call_of e)

-- No step: the seat is as before, and the reply is the sequential fault list's after the history
-- that it has seen.
pub record Stays (old : Sitter) (c : Call) (reply : Reply) (new : Sitter) : Type 0 where
  pub seat : new ≡ old
  pub replied : reply ≡ answer old.place.shape old.seen c

-- A drop that finds no hit. The seat sees more, and the error is the sequential fault list's after
-- some history `at`. It begins with the seat's earlier history, or is that, and the seat's later
-- history begins with it.
pub record FindsNoHit (old : Sitter) (new : Sitter) : Type 0 where
  pub sees : Sees old old.exhausted new
  pub at : History
  pub first : ContinuesWithout old.worker at old.seen
  pub later : ContinuesWithout old.worker new.seen at
  pub replied : Refused NoEarlierHit ≡ answer old.place.shape at (call.Drop old.worker)

-- Two seats that met. The first's history begins with both earlier ones, and the second's begins
-- with the first's. Neither has new events of the two workers.
pub record Meets (first second first_now second_now : Sitter) : Type 0 where
  pub first_sees : Sees first first.exhausted first_now
  pub second_sees : Sees second second.exhausted second_now
  pub first_has_second : ContinuesWithout second.worker first_now.seen second.seen
  pub second_has_first : ContinuesWithout first.worker second_now.seen first.seen
  pub second_goes_on : ContinuesWithout second.worker second_now.seen first_now.seen

-- the face of a closed ledger: its shape, and the state of each piece
pub record ClosedFace : Type 0 where
  pub shape : Shape
  pub states : List PieceState

abbrev pub closed_of : Shape → List PieceState → ClosedFace
closed_of shape states = record { shape = shape; states = states }

-- the face that a history shows
abbrev pub closed_face : Shape → History → ClosedFace
closed_face shape h = closed_of shape (states_of shape h)

-- the states show some legal history
abbrev pub AreStates : Shape → List PieceState → Type 0
AreStates shape states = (h : History) × IsLegal shape h × (states ≡ states_of shape h)

-- the history begins with the history of each seat, and has no further event of its worker
abbrev pub HoldsAll : History → List Sitter → Type 0
HoldsAll h seats = All (λ seat. ContinuesWithout seat.worker h seat.seen) seats

-- There is one legal history that the closed ledger shows, and in which all that the seats have
-- seen and done stands, each event once.
abbrev pub Closes : Shape → List Sitter → ClosedFace → Type 0
Closes shape seats closed = (h : History) × IsLegal shape h × HoldsAll h seats
    × (closed ≡ closed_face shape h)
