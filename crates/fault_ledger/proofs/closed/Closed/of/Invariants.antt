use Rattle.std.proofs.Common.{◌≡◌, ℕ, ◌<◌, map, slice_index, vec_len}
use Rattle.fault_ledger.specs.{Heads.IsHead, Words.state_at}
use Rattle.fault_ledger.proofs.closed.Closed.of.Given as goal

abbrev pub invariant-loop-class : goal.invariant-loop-class
invariant-loop-class l = record {
  long : vec_len l.clear_blocks ≡ l.class;
  each : (k : ℕ) → k < l.class
      → IsHead l.shape (map state_at l.codes.items) k (slice_index l.clear_blocks.items k);
}
