use Rattle.std.{proofs.Common.take, specs.List.flat_map}
use Rattle.byte_output.specs.Output.{TakesAll}
use Rattle.byte_output.proofs.put_pieces.Given as goal

-- the pieces so far were taken whole
abbrev pub invariant-loop-piece : goal.invariant-loop-piece
invariant-loop-piece g l = TakesAll (g.W.Out.seen l.initial.out) (g.W.Out.seen l.out)
    (flat_map (λ p. p.now) (take l.piece-index l.pieces))
