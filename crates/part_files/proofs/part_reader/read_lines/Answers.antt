use Rattle.std.proofs.{Common.{◌∙◌, ap}, lemmas.Result.err_from_is_err_and}
use Rattle.part_files.specs.PartReading.{end_of, head_in}
use Rattle.part_files.proofs.PartReadings.{begun_end, end_refused, part_of, reading_more}
use Rattle.part_files.proofs.part_reader.read_lines.Goals as goal

pub returns-in_err-check_end-in-None-clause-refused :
    goal.returns-in_err-check_end-in-None-clause-refused
returns-in_err-check_end-in-None-clause-refused c =
    let p = err_from_is_err_and c.from_residual-in_err-check_end-in-None.result
    c.from_residual-in_err-check_end-in-None.ensures.1 in
    let refused = rw (c.as_slice.ensures.value) at c.in_err-check_end-in-None.ensures.refused in
    rw (p.1, p.2) (end_refused _ _ _ _ _ _ _ _ _ c.loop-line.invariant c.in-Some.ensures
    c.in-None.ensures refused)

pub returns-in-None-clause-read : goal.returns-in-None-clause-read
returns-in-None-clause-read c =
    let last = c.in_ok-check_end-in-None.ensures.last
    ∙ ap (λ l. end_of (head_in c.args.header) l) c.as_slice.ensures.value in
    part_of _ _ _ _ _
    (begun_end _ _ _ _ _ _ _ c.loop-line.invariant.begun c.in-Some.ensures.whole last)
    c.in_ok-check_end-in-None.ensures.all

pub loop-line-preserved : goal.loop-line-preserved
loop-line-preserved c =
    let added = c.in_ok-add_line-in-Some-line_of.ensures in
    reading_more _ _ _ _ _ _ _ _ _ _ _ _ c.loop-line.invariant c.in-Some.ensures
    c.in-Some-line_of.ensures added.faults added.verdicts
