use Rattle.std.proofs.Common.{◌≡◌, ℕ, ◌+◌, ◌*◌, ◌<◌, slice_index_or}
use Rattle.fault_ledger.specs.declared.PieceState.TheVariants.{Open, Clear}
use Rattle.fault_ledger.proofs.states.status_in.Given as goal

abbrev pub invariant-loop-block : goal.invariant-loop-block
invariant-loop-block l = (k : ℕ) → k < l.block
    → slice_index_or l.states (l.class + l.shape.classes * k) Open ≡ Clear
