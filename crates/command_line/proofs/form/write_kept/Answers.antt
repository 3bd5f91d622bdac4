use Rattle.std.proofs.lemmas.Result.{err_from_is_err_and}
use Rattle.command_line.proofs.WrittenForms.{kept_refused}
use Rattle.command_line.proofs.form.write_kept.Goals as goal

pub returns-in_err-count : goal.returns-in_err-count
returns-in_err-count g c =
    let p = err_from_is_err_and c.from_residual.result c.from_residual.ensures.1 in
    rw (p.1, p.2) (kept_refused c.args.run.now.whole c.args.layout _ _ _
    c.in_err-count.ensures.written)

pub returns : goal.returns
returns g c =
    let w = c.in_ok-count.ensures.written in
    (w.0, (c.in_ok-count.count, w.1), w.2)
