use Rattle.std.proofs.lemmas.Result.{err_from_is_err_and}
use Rattle.analysis_reports.proofs.compacted.put_kept.Goals as goal

pub returns-in_err-put_text-in-Rows-clause-written :
    goal.returns-in_err-put_text-in-Rows-clause-written
returns-in_err-put_text-in-Rows-clause-written g c =
    let p = err_from_is_err_and c.from_residual-in_err-put_text-in-Rows.result
    c.from_residual-in_err-put_text-in-Rows.ensures.1 in
    let wrote = rw (c.deref.ensures.value) at c.in_err-put_text-in-Rows.ensures in
    rw (p.1, p.2, c.in-Rows.is) (
      c.in_ok-text-in-Rows.text.items,
      c.in_ok-text-in-Rows.ensures,
      wrote,
    )
