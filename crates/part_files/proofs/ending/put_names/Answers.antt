use Rattle.std.{proofs.Common.{ap, ◌≤◌, length, arith, ◌∙◌, sym}, specs.Prelude.zip}
use Rattle.std.proofs.lemmas.Result.{err_from_is_err_and}
use Rattle.part_files.{specs.PartReading.texts_in, proofs.MergeEnds.name_at}
use Rattle.part_files.proofs.JoinedParts.{texts_count}
use Rattle.report.specs.Report.{wanted_name}
use Rattle.byte_output.proofs.Public.{takes_more, stopped, flat_map_cut, flat_map_taken}
use Rattle.threaded_lines.proofs.Public.{all_zipped}
use Rattle.part_files.proofs.ending.put_names.Goals as goal

pub returns-in_err-put_wanted_name : goal.returns-in_err-put_wanted_name
returns-in_err-put_wanted_name g c =
    let p = err_from_is_err_and c.from_residual.result c.from_residual.ensures.1 in
    let zipped = name_at c.args.faults.now c.args.firsts.now c.loop-place.place _ _ (omega arith)
    (omega (arith, c.requires)) in
    rw (p.1) (stopped _ _ _ _ _ _ _ c.loop-place.invariant c.in_err-put_wanted_name.ensures
    (flat_map_cut (wanted_name c.args.lines) (zip (texts_in c.args.faults.now) c.args.firsts.now)
    c.loop-place.place _ _ zipped.0 (ap (wanted_name c.args.lines) zipped.1)))

pub loop-place-preserved : goal.loop-place-preserved
loop-place-preserved g c =
    let zipped = name_at c.args.faults.now c.args.firsts.now c.loop-place.place _ _ (omega arith)
    (omega (arith, c.requires)) in
    rw (flat_map_taken (wanted_name c.args.lines)
    (zip (texts_in c.args.faults.now) c.args.firsts.now) c.loop-place.place _ _ zipped.0
    (ap (wanted_name c.args.lines) zipped.1))
    (takes_more _ _ _ _ _ c.loop-place.invariant c.in_ok-put_wanted_name.ensures)

pub returns : goal.returns
returns g c =
    let le : length (texts_in c.args.faults.now) ≤ c.loop-place.place = omega (
      arith,
      texts_count c.args.faults.now,
    ) in
    let all = all_zipped (texts_in c.args.faults.now) c.args.firsts.now c.loop-place.place
    (c.requires ∙ sym (texts_count c.args.faults.now)) le in
    rw (all) at c.loop-place.invariant
