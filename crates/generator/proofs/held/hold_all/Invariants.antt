use Rattle.generator.proofs.HeldInputs.{IsSoFar}
use Rattle.generator.proofs.held.hold_all.Given as goal

abbrev pub invariant-loop-place : goal.invariant-loop-place
invariant-loop-place l = IsSoFar l.circuit l.held l.place l.bits
