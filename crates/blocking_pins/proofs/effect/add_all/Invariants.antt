use Rattle.std.proofs.Common.{◌≡◌, length}
use Rattle.blocking_pins.proofs.Waiting.{AreAddedTo}
use Rattle.blocking_pins.proofs.effect.add_all.Given as goal

abbrev pub invariant-loop-signal : goal.invariant-loop-signal
invariant-loop-signal l = record {
  room : length l.waiting ≡ length l.initial.waiting;
  added : AreAddedTo l.signals l.signal-index l.initial.waiting l.waiting;
}
