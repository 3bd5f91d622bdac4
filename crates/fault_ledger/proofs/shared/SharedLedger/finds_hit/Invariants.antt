use Rattle.std.proofs.Common.{◌≡◌, ℕ, ◌<◌, ◌≤◌, false}
use Rattle.fault_ledger.specs.{History.{entry, piece_at}, Answer.is_hit, Seats.Sees}
use Rattle.fault_ledger.proofs.shared.SharedLedger.finds_hit.Given as goal

abbrev pub invariant-loop-block : goal.invariant-loop-block
invariant-loop-block l = record {
  sees : Sees l.fn.token l.fn.token.exhausted l.token;
  unmoved : l.end ≡ 0 → l.token ≡ l.fn.token;
  missed : (k : ℕ) → k < l.block → l.from ≤ k
      → is_hit (entry (piece_at l.self.shape l.class k) l.fn.token.seen) ≡ false;
}
