use Rattle.std.proofs.lemmas.Result.{err_from_is_err_and}
use Rattle.byte_output.proofs.Public.{writes_then, stopped_before}
use Rattle.part_files.proofs.ending.put_name_line.Goals as goal

pub returns-in_err-put_all : goal.returns-in_err-put_all
returns-in_err-put_all g c =
    let p = err_from_is_err_and c.from_residual.result c.from_residual.ensures.1 in
    rw (p.1) (stopped_before _ _ _ _ c.in_err-put_all.ensures)

pub returns-in-Some : goal.returns-in-Some
returns-in-Some g c = let wrote = rw (c.format.ensures.text) at c.put_pieces.ensures in
    rw (c.in-Some.is) (writes_then _ _ _ _ _ _ c.in_ok-put_all.ensures wrote)

pub returns-in-None : goal.returns-in-None
returns-in-None g c = rw (c.in-None.is)
    (writes_then _ _ _ _ _ _ c.in_ok-put_all.ensures c.put_pieces-in-None.ensures)
