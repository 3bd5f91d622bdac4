-- The first hit of each class.
use Rattle.std.specs.Prelude.{◌≡◌, ℕ, ◌<◌, ◌≤◌, Bool, nat_lt, min, List, length, slice_index}
use Rattle.std.specs.Prelude.{slice_index_or}
use Rattle.std.specs.List.{list_any}
use Rattle.patterns.specs.Least.{below}
use Rattle.fault_ledger.specs.declared.Shape.{Shape}
use Rattle.fault_ledger.specs.declared.PieceState.{PieceState}
use Rattle.fault_ledger.specs.declared.PieceState.TheVariants as state
use Rattle.fault_ledger.specs.History.{block_count, piece_count, piece_at}
use Rattle.fault_ledger.specs.Answer.{is_hit}

-- whether one of the first n blocks of a class is Hit, by the states of all pieces
abbrev pub hit_below : Shape → List PieceState → ℕ → ℕ → Bool
hit_below shape states class n =
    list_any (λ block. is_hit (slice_index_or states (piece_at shape class block) state.Open))
    (below n)

-- For each class that has a piece a number: one of the first n blocks of the class is Hit exactly
-- if the number is below n.
pub record AreLowestHits (shape : Shape) (states : List PieceState) (hits : List ℕ) : Type 0 where
  pub long : length hits ≡ min shape.classes (piece_count shape)
  pub each : (class n : ℕ) → class < shape.classes → n ≤ block_count shape
      → nat_lt (slice_index hits class) n ≡ hit_below shape states class n
