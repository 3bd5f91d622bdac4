use Rattle.std.{proofs.Common.{◌≤◌, ◌<◌, ℕ, All}, specs.Prelude.slice_index_or}
use Rattle.flat_circuit.proofs.signal_order.key_above.Given as goal

abbrev pub invariant-loop-pin : goal.invariant-loop-pin
invariant-loop-pin l = record {
  above : (j : ℕ) → j < l.pin-index → slice_index_or l.keys (slice_index_or l.pins j 0) 0 < l.key;
  low : (bound : ℕ) → l.rank ≤ bound → All (λ key. key < bound) l.keys → l.key ≤ bound;
}
