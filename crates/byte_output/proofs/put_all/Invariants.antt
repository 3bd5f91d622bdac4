use Rattle.std.proofs.Common.{◌≡◌, ℕ, List, ◌++◌, length}
use Rattle.byte_output.specs.Output.{TakesAll}
use Rattle.byte_output.proofs.put_all.Given as goal

-- the bytes that were taken so far, and the rest of the piece
abbrev pub invariant-loop-rest : goal.invariant-loop-rest
invariant-loop-rest g l = (front : List ℕ) × (l.piece ≡ front ++ l.rest)
    × TakesAll (g.W.Out.seen l.initial.out) (g.W.Out.seen l.out) front

abbrev pub decreases-loop-rest : goal.decreases-loop-rest
decreases-loop-rest g l = length l.rest
