use Rattle.std.proofs.{Common.refl, lemmas.Result.err_from_is_err_and}
use Rattle.byte_output.proofs.Public.{takes_more, stopped, flat_map_cut, flat_map_taken}
use Rattle.analysis_reports.specs.Compacted.{number_line}
use Rattle.analysis_reports.proofs.compacted.put_numbers.Goals as goal

pub returns-in_err-put_number : goal.returns-in_err-put_number
returns-in_err-put_number g c =
    let p = err_from_is_err_and c.from_residual.result c.from_residual.ensures.1 in
    rw (p.1) (stopped _ _ _ _ _ _ _ c.loop-number.invariant c.in_err-put_number.ensures
    (flat_map_cut number_line c.args.numbers.now c.loop-number.number-index 0 _
    c.loop-number-test.true refl))

pub loop-number-preserved : goal.loop-number-preserved
loop-number-preserved g c =
    rw (flat_map_taken number_line c.args.numbers.now c.loop-number.number-index 0 _
    c.loop-number-test.true refl)
    (takes_more _ _ _ _ _ c.loop-number.invariant c.in_ok-put_number.ensures)
