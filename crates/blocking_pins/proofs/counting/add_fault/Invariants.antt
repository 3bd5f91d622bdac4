use Rattle.std.{proofs.Common.{◌≡◌, ◌+◌, ◌*◌, length}, specs.Prelude.{All, Some, slice_get}}
use Rattle.fault_model.specs.Fault.{Fault}
use Rattle.flat_circuit.specs.BlockSpans.{groups}
use Rattle.blocking_pins.specs.{Counting.{AreAllAdded, BlocksAtPlace}, Effects.IsFresh}
use Rattle.blocking_pins.proofs.VecRows.{rows_of}
use Rattle.blocking_pins.proofs.counting.add_fault.Given as goal

abbrev pub invariant-loop-group : goal.invariant-loop-group
invariant-loop-group l = record {
  added : (f : Fault) → slice_get l.job.list.list l.fault ≡ Some f
      → AreAllAdded (l.fault + 1) (λ group i k. BlocksAtPlace l.job.circuit l.job.tests.tests f
      l.tables.pins.now.pins.items i (128 * group + k)) l.group l.initial.counts l.counts
      (rows_of l.initial.rows) (rows_of l.rows);
  effect : IsFresh l.tables.words.circuit.now.arranged l.effect;
  count : length l.counts ≡ length l.tables.pins.now.pins.items;
  room : length (rows_of l.rows) ≡ groups (length l.job.tests.tests);
  long : All (λ row. length row ≡ length l.tables.pins.now.pins.items) (rows_of l.rows);
}
