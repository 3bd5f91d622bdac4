use Rattle.std.proofs.Common.{◌≡◌}
use Rattle.fault_ledger.specs.{Settled.AreClear, Seats.Sees}
use Rattle.fault_ledger.proofs.shared.SharedLedger.passes_clear_from.Given as goal

abbrev pub invariant-loop-block : goal.invariant-loop-block
invariant-loop-block l = record {
  sees : Sees l.fn.token l.fn.token.exhausted l.token;
  unmoved : l.end ≡ 0 → l.token ≡ l.fn.token;
  clear : AreClear l.self.shape l.token.seen l.class l.block;
}
