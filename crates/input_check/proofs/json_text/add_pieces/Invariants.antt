use Rattle.std.{proofs.Common.{◌≡◌, ◌++◌, take}, specs.List.flat_map}
use Rattle.input_check.proofs.json_text.add_pieces.Given as goal

-- the pieces so far were added
abbrev pub invariant-loop-piece : goal.invariant-loop-piece
invariant-loop-piece l = l.text.items
    ≡ l.fn.text.items ++ flat_map (λ piece. piece.now) (take l.piece-index l.pieces)
