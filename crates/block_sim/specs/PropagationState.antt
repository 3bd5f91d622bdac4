-- The invariants of the words that differ and of the gates that wait.
use Rattle.std.specs.Prelude.{◌≡◌, ℕ, ◌<◌, ◌≤◌, All, List, length, Some, slice_index_or}
use Rattle.bench_net.specs.declared.Kind.{Kind}
use Rattle.bench_net.specs.Statement.{Statement}
use Rattle.bench_net.specs.Scan.{names, gate_of}
use Rattle.block_sim.specs.declared.propagation_state.PropagationState.{PropagationState}

-- there is room for each signal of the circuit, and for one place more
pub record HasRoomFor (c : List Statement) (changes : PropagationState) : Type 0 where
  pub overlay : length (names c) ≤ length changes.overlay
  pub gates : length (names c) < length changes.waiting

-- there is as much room as before
pub record IsAsLarge (before after : PropagationState) : Type 0 where
  pub overlay : length after.overlay ≡ length before.overlay
  pub gates : length after.waiting ≡ length before.waiting

-- no word differs and no gate waits
pub record IsClear (changes : PropagationState) : Type 0 where
  pub words : All (λ word. word ≡ 0) changes.overlay
  pub gates : All (λ at. at ≡ 0) changes.waiting

-- Between two calls no word differs and no gate waits. There is room for as many gates as signals.
pub record IsAtRest (changes : PropagationState) : Type 0 where
  pub clear : IsClear changes
  pub gates : length changes.overlay < length changes.waiting

-- a gate of the circuit that has waited and no longer does, and whose signal does not differ
pub record IsTaken (c : List Statement) (changes : PropagationState) (gate : ℕ) : Type 0 where
  pub within : gate < length (names c)
  pub driven : (line : Kind × List ℕ) × (gate_of c gate ≡ Some line)
  pub waits : slice_index_or changes.waiting gate 0 ≡ 0
  pub clear : slice_index_or changes.overlay gate 0 ≡ 0
