use Rattle.std.proofs.Common.{◌≡◌, ℕ, ◌<◌, map}
use Rattle.fault_ledger.specs.{declared.PieceState.TheVariants.Clear, Heads.state_in}
use Rattle.fault_ledger.specs.Words.{state_at}
use Rattle.fault_ledger.proofs.closed.clear_head.Given as goal

abbrev pub invariant-loop-block : goal.invariant-loop-block
invariant-loop-block l = (k : ℕ) → k < l.block
    → state_in l.shape (map state_at l.codes) l.class k ≡ Clear
