use Rattle.std.proofs.Common.{map}
use Rattle.blocking_pins.proofs.PinRows.{AreListedBelow}
use Rattle.blocking_pins.proofs.pins.rows_of.Given as goal

abbrev pub invariant-loop-at : goal.invariant-loop-at
invariant-loop-at l = AreListedBelow l.job l.pins.pins.items l.at l.rows.items
