use Rattle.std.proofs.lemmas.Result.{err_from_is_err_and}
use Rattle.byte_output.proofs.Public.{takes_more, stopped, flat_map_cut, flat_map_taken}
use Rattle.byte_output.proofs.put_pieces.Goals as goal

pub returns-in_err-put_all : goal.returns-in_err-put_all
returns-in_err-put_all g c =
    let p = err_from_is_err_and c.from_residual.result c.from_residual.ensures.1 in
    rw (p.1) (stopped _ c.as_bytes.result.now _ _ _ _ _ c.loop-piece.invariant
    c.in_err-put_all.ensures
    (flat_map_cut (λ p. p.now) c.args.pieces.now c.loop-piece.piece-index _ _ c.loop-piece-test.true
    c.as_bytes.ensures.value))

pub loop-piece-preserved : goal.loop-piece-preserved
loop-piece-preserved g c =
    rw (flat_map_taken (λ p. p.now) c.args.pieces.now c.loop-piece.piece-index _ _
    c.loop-piece-test.true c.as_bytes.ensures.value)
    (takes_more _ _ _ _ _ c.loop-piece.invariant c.in_ok-put_all.ensures)
