use Rattle.std.specs.Prelude.{All}
use Rattle.flat_circuit.specs.GroupRows.{AreOwnRows}
use Rattle.flat_circuit.proofs.fault_free.take_groups.Given as goal

abbrev pub invariant-loop-pass : goal.invariant-loop-pass
invariant-loop-pass l = All (AreOwnRows l.circuit.arranged l.tests.tests) l.taken.items
