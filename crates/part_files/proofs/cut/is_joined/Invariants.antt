use Rattle.std.{proofs.Common.{◌≡◌, ◌++◌, take}, specs.List.flat_map}
use Rattle.part_files.proofs.cut.is_joined.Given as goal

-- the pieces so far are the text's beginning
abbrev pub invariant-loop-piece : goal.invariant-loop-piece
invariant-loop-piece l = l.text ≡ flat_map (λ p. p.now) (take l.piece-index l.pieces) ++ l.rest
