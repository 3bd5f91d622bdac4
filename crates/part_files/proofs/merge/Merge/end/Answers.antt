use Rattle.std.proofs.{Common.{◌∙◌, ap, arith, map, sym}, lemmas.Result.err_from_is_err_and}
use Rattle.region_runs.specs.declared.parts.PartVerdict.TheVariants.{First}
use Rattle.part_files.specs.{Merging.state_of, PartReading.texts_in}
use Rattle.part_files.proofs.MergeEnds.{open_refused, no_verdict}
use Rattle.part_files.proofs.merge.Merge.end.Goals as goal

pub returns-in-Some-clause-refused : goal.returns-in-Some-clause-refused
returns-in-Some-clause-refused c =
    let at = rw (c.as_slice.ensures.value) at c.in-Some.ensures in
    (c.in-Some.part, omega (arith, c.from.ensures), at.0, at.1, at.2)

pub returns-in_err-firsts-clause-refused : goal.returns-in_err-firsts-clause-refused
returns-in_err-firsts-clause-refused c =
    let p = err_from_is_err_and c.from_residual.result c.from_residual.ensures.1 in
    let at = rw (c.as_slice.ensures.value) at c.in_default.ensures in
    let refused = rw (c.as_slice-2.ensures.value) at c.in_err-firsts.ensures.refused in
    rw (p.1, p.2) (open_refused (state_of c.args.self) _ at refused)

pub returns-then-is_empty-clause-refused : goal.returns-then-is_empty-clause-refused
returns-then-is_empty-clause-refused c =
    let at = rw (c.as_slice.ensures.value) at c.in_default.ensures in
    let verdicts = rw (c.as_slice-2.ensures.value) at c.in_ok-firsts.ensures.firsts in (
      at,
      no_verdict _ _ _ verdicts (omega (arith, c.in_ok-firsts.firsts.ok.0))
          (sym c.if-is_empty.ensures),
    )

pub returns-then-len-clause-refused : goal.returns-then-len-clause-refused
returns-then-len-clause-refused c =
    let at = rw (c.as_slice.ensures.value) at c.in_default.ensures in
    let verdicts = rw (c.as_slice-2.ensures.value) at c.in_ok-firsts.ensures.firsts in
    (at, c.in_ok-firsts.firsts.items, verdicts, omega (arith, c.len.ensures, c.if-len.true))

pub returns-clause-merged : goal.returns-clause-merged
returns-clause-merged c =
    let at = rw (c.as_slice.ensures.value) at c.in_default.ensures in
    let verdicts = rw (c.as_slice-2.ensures.value) at c.in_ok-firsts.ensures.firsts in
    record {
      parts = at;
      faults = ap (λ l. texts_in l.items) c.of.ensures.faults;
      verdicts = verdicts ∙ ap (λ l. map First l.items) (sym c.of.ensures.firsts);
    }
