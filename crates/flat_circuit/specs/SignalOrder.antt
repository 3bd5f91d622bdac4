-- A walk through a circuit, and keys that put its signals in a topological order.
use Rattle.std.specs.Prelude.{◌≡◌, ◌<◌, ℕ, All, List, length, slice_index_or}
use Rattle.bench_net.specs.Statement.{Statement}
use Rattle.bench_net.specs.Scan.{names}
use Rattle.fault_model.specs.Reordered.{IsSourceAt}
use Rattle.flat_circuit.specs.declared.order_walk.Walk.{Walk}
use Rattle.flat_circuit.specs.Readers.{Reads}

-- a key that a signal may have beside the others' keys: 0 for a source, and for a gate a key
-- greater than the keys of the signals that it reads
pub record IsKeyOf (c : List Statement) (keys : List ℕ) (s key : ℕ) : Type 0 where
  pub source : IsSourceAt c s → key ≡ 0
  pub gate : (t : ℕ) → Reads c s t → slice_index_or keys t 0 < key

-- each signal has such a key
abbrev pub HaveKeys : List Statement → List ℕ → Type 0
HaveKeys c keys = (s : ℕ) → s < length (names c) → IsKeyOf c keys s (slice_index_or keys s 0)

-- the walk has an entry for each of this number of signals, and its path consists of these signals
pub record IsWalk (signals : ℕ) (walk : Walk) : Type 0 where
  pub entered : length walk.entered.items ≡ signals
  pub ranks : length walk.ranks.items ≡ signals
  pub path : All (λ at. at.signal < signals) walk.path.items
