use Rattle.std.proofs.{Common.refl, lemmas.Result.err_from_is_err_and}
use Rattle.tables.proofs.write.write_rows_in_threads.Goals as goal

pub returns-in_err-write_texts-clause-written : goal.returns-in_err-write_texts-clause-written
returns-in_err-write_texts-clause-written g c =
    let p = err_from_is_err_and c.from_residual-in_err-write_texts.result
    c.from_residual-in_err-write_texts.ensures.1 in
    let wrote = rw (c.deref.ensures.value, c.in_ok-texts.ensures) at c.in_err-write_texts.ensures in
    rw (p.1, p.2) (_, refl, wrote)

pub returns-clause-written : goal.returns-clause-written
returns-clause-written g c =
    let wrote = rw (c.deref.ensures.value, c.in_ok-texts.ensures) at c.in_ok-write_texts.ensures in
    (_, refl, wrote)
