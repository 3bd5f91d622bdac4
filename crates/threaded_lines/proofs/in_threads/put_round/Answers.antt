use Rattle.std.proofs.{Common.{◌≡◌, ◌≤◌, arith, length, subst}, lemmas.Result.err_from_is_err_and}
use Rattle.threaded_lines.proofs.LinesOfStretches.{stretch_cut}
use Rattle.threaded_lines.proofs.in_threads.put_round.Goals as goal

pub returns-in_err-put : goal.returns-in_err-put
returns-in_err-put g c =
    let p = err_from_is_err_and c.from_residual-in_err-put.result
    c.from_residual-in_err-put.ensures.1 in
    let put = c.in_ok-end.ensures in
    let ts = g.L.FaultLines.texts c.args.lines.now in
    let same : c.in_ok-end.end ≡ c.args.place = omega (arith, put.order, c.if-end-place.false) in
    rw (p.1) ((
      stretch_cut (λ text. text) ts c.args.place c.args.place
          c.end_of-end.result (length ts) _ _ _ (omega arith) c.end_of-end.ensures.order
          (subst (λ n. c.end_of-end.result ≤ n) c.count.ensures c.end_of-end.ensures.within)
          (rw (same) at put.taken) c.in_err-put.ensures,
      tt,
    ))
