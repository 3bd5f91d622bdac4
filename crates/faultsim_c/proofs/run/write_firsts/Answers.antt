use Rattle.std.proofs.{Common.{◌≡◌, ◌∙◌, None, ap, arith, get_or}, lemmas.List.length-set}
use Rattle.faultsim_c.{specs.Calls.first_number, proofs.Tables.next}
use Rattle.faultsim_c.proofs.run.write_firsts.Goals as goal

pub loop-place-preserved : goal.loop-place-preserved
loop-place-preserved c =
    let firsts = c.loop-place.firsts in
    let place = c.loop-place.place in
    let r = c.first_number.result in
    let same = c.loop-place.invariant.0 in
    let low = c.loop-place-test.true in (
      length-set firsts place r ∙ same,
      next (λ k n. n ≡ first_number (get_or c.args.found.now k None)) place r firsts
          (omega (arith, same, low)) (c.first_number.ensures ∙ ap first_number c.first_at.ensures)
          c.loop-place.invariant.1,
    )
