use Rattle.std.{proofs.Common.refl, specs.Prelude.count_by}
use Rattle.std.proofs.lemmas.Result.{err_from_is_err_and}
use Rattle.byte_output.proofs.Public.{takes_more, stopped, stopped_before, stopped_after}
use Rattle.part_files.specs.PartText.{end_line, head_line, is_found, is_own, job_part_text, said_by}
use Rattle.part_files.proofs.PartPieces.{lines_of_model}
use Rattle.part_files.proofs.part_writer.write_part.Goals as goal

pub returns-in_err-put_head : goal.returns-in_err-put_head
returns-in_err-put_head g c =
    let p = err_from_is_err_and c.from_residual.result c.from_residual.ensures.1 in
    rw (p.1) (stopped_before _ _ _ _ c.in_err-put_head.ensures)

pub returns-in_err-put_verdicts : goal.returns-in_err-put_verdicts
returns-in_err-put_verdicts g c =
    let p = err_from_is_err_and c.from_residual-in_err-put_verdicts.result
    c.from_residual-in_err-put_verdicts.ensures.1 in
    let h = said_by c.args.head.now in
    let same = lines_of_model c.args.list.now.model c.args.circuit.now c.args.list.now.list
    c.args.verdicts.now c.requires.list in
    let wrote = rw (same) at c.in_err-put_verdicts.ensures in
    rw (p.1)
    (stopped (head_line h) _ (end_line h.part h.parts (count_by is_found c.args.verdicts.now)
    (count_by is_own c.args.verdicts.now))
    (job_part_text h c.args.list.now.model c.args.circuit.now c.args.verdicts.now) _ _ _
    c.in_ok-put_head.ensures wrote refl)

pub returns-in_err-put_end : goal.returns-in_err-put_end
returns-in_err-put_end g c =
    let p = err_from_is_err_and c.from_residual-in_err-put_end.result
    c.from_residual-in_err-put_end.ensures.1 in
    let same = lines_of_model c.args.list.now.model c.args.circuit.now c.args.list.now.list
    c.args.verdicts.now c.requires.list in
    let wrote = rw (same) at c.in_ok-put_verdicts.ensures in
    let ended = rw (
      c.count_found-found.ensures,
      c.count_own-own.ensures,
    ) at c.in_err-put_end.ensures in
    rw (p.1) (stopped_after (head_line (said_by c.args.head.now)) _ _ _ _ c.in_ok-put_head.ensures
    (stopped_after _ _ _ _ _ wrote ended))

pub returns : goal.returns
returns g c =
    let same = lines_of_model c.args.list.now.model c.args.circuit.now c.args.list.now.list
    c.args.verdicts.now c.requires.list in
    let wrote = rw (same) at c.in_ok-put_verdicts.ensures in
    let ended = rw (
      c.count_found-found.ensures,
      c.count_own-own.ensures,
    ) at c.in_ok-put_end.ensures in
    takes_more _ _ _ (head_line (said_by c.args.head.now)) _ c.in_ok-put_head.ensures
    (takes_more _ _ _ _ _ wrote ended)
