-- The number of first blocks of each class that are Clear, by the states of all pieces.
use Rattle.std.specs.Prelude.{◌≡◌, ◌≢◌, ℕ, ◌<◌, ◌≤◌, min, List, length, slice_index, slice_index_or}
use Rattle.fault_ledger.specs.declared.Shape.{Shape}
use Rattle.fault_ledger.specs.declared.PieceState.{PieceState}
use Rattle.fault_ledger.specs.declared.PieceState.TheVariants as state
use Rattle.fault_ledger.specs.History.{block_count, piece_at, piece_count}

-- the state of a class and a block
abbrev pub state_in : Shape → List PieceState → ℕ → ℕ → PieceState
state_in shape states class block = slice_index_or states (piece_at shape class block) state.Open

-- exactly the first `blocks` blocks of a class are Clear
pub record IsHead (shape : Shape) (states : List PieceState) (class blocks : ℕ) : Type 0 where
  pub most : blocks ≤ block_count shape
  pub clear : (earlier : ℕ) → earlier < blocks → state_in shape states class earlier ≡ state.Clear
  pub next : blocks < block_count shape → state_in shape states class blocks ≢ state.Clear

-- for each class that has a piece its number, and 0 for the others
pub record AreHeads (shape : Shape) (states : List PieceState) (heads : List ℕ) : Type 0 where
  pub long : length heads ≡ min shape.classes (piece_count shape)
  pub each : (class : ℕ) → class < shape.classes
      → IsHead shape states class (slice_index heads class)
