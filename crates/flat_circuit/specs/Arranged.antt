-- The circuit that a simulation reads: its statements in the order of their places.
use Rattle.std.specs.Prelude.{◌≡◌, ◌<◌, ℕ, List, AllPairs, length, slice_index_or}
use Rattle.bench_net.specs.Statement.{Statement}
use Rattle.bench_net.specs.Scan.{names}
use Rattle.fault_model.specs.Reordered.{IsSignalOrder, place, in_order}
use Rattle.flat_circuit.specs.Readers.{Reads}

-- The numbers of all signals in a topological order: the numbers of sources ascend, and each gate
-- comes after the signals that it reads.
pub record IsFlowOrder (c : List Statement) (order : List ℕ) : Type 0 where
  pub signals : IsSignalOrder c order
  pub forward : AllPairs (λ s t. Reads c s t → ⊥) order

-- the view that contracts have of a circuit in flat lists: its statements, and the same statements
-- in the order of their places
pub record Arranged : Type 0 where
  pub statements : List Statement
  pub arranged : List Statement

-- the second list has the statements of the first in a topological order
abbrev pub IsArranged : List Statement → List Statement → Type 0
IsArranged c d = (order : List ℕ) × IsFlowOrder c order × (d ≡ in_order c order)

-- the table has at each signal's number its place: its number in the second list
abbrev pub ArePlaces : List Statement → List Statement → List ℕ → Type 0
ArePlaces c d places = (s : ℕ) → s < length (names c) → slice_index_or places s 0 ≡ place c d s
