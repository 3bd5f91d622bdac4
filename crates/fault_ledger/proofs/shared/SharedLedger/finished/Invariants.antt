use Rattle.std.proofs.Common.{◌≡◌, ◌⊎◌, ℕ, ◌<◌, Option}
use Rattle.fault_ledger.specs.{History.block_count, Settled.IsSettledAt, Seats.Sees}
use Rattle.fault_ledger.proofs.shared.SharedLedger.finished.Given as goal

abbrev pub invariant-loop-class : goal.invariant-loop-class
invariant-loop-class l = record {
  sees : Sees l.fn.seat l.fn.seat.exhausted l.seat;
  still : (l.self.shape.classes ≡ 0) ⊎ (block_count l.self.shape ≡ 0) → l.seat ≡ l.fn.seat;
  settled : (k : ℕ) → k < l.class → (at : Option ℕ) × IsSettledAt l.self.shape l.seat.seen k at;
}
