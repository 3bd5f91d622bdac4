use Rattle.std.proofs.{Common.{◌≡◌, arith, length}, lemmas.Result.err_from_is_err_and}
use Rattle.threaded_lines.proofs.LinesOfStretches.{all_cut, all_put, stretch_put}
use Rattle.threaded_lines.proofs.in_threads.put_in_threads.Goals as goal

pub returns-in_err-end : goal.returns-in_err-end
returns-in_err-end g c =
    let p = err_from_is_err_and c.from_residual.result c.from_residual.ensures.1 in
    rw (p.1) (all_cut (λ text. text) (g.L.FaultLines.texts c.args.lines.now) c.loop-place.place
    _ _ _ c.loop-place.invariant.low c.loop-place.invariant.taken c.in_err-end.ensures.0)

pub loop-place-preserved : goal.loop-place-preserved
loop-place-preserved g c =
    let more = c.in_ok-end.ensures.0 in
    record {
      low = more.within;
      taken = stretch_put (λ text. text) (g.L.FaultLines.texts c.args.lines.now) 0
          c.loop-place.place c.in_ok-end.end _ _ _ (omega arith) more.order
          c.loop-place.invariant.taken more.taken;
    }

pub returns : goal.returns
returns g c =
    let ts = g.L.FaultLines.texts c.args.lines.now in
    let low = c.loop-place.invariant.low in
    let end : c.loop-place.place ≡ length ts = omega (arith, low) in
    all_put (λ text. text) ts c.loop-place.place _ _ end c.loop-place.invariant.taken
