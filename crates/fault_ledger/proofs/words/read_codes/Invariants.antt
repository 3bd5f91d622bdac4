use Rattle.std.{proofs.Common.{◌≡◌, ℕ, ◌<◌, get_or, length}, specs.Mem.Slots.slots_items}
use Rattle.fault_ledger.specs.Words as rule
use Rattle.fault_ledger.proofs.words.read_codes.Given as goal

abbrev pub invariant-loop-piece : goal.invariant-loop-piece
invariant-loop-piece l = record {
  count : length l.codes.items ≡ l.pieces;
  read : (k : ℕ) → k < l.piece
      → get_or l.codes.items k 0 ≡ rule.field_in (slots_items l.closed.words) k;
}
