use Rattle.std.proofs.lemmas.Result.{err_from_is_err_and}
use Rattle.byte_output.proofs.Public.{takes_more, stopped_before, stopped_after}
use Rattle.report.proofs.report.write_listing.Goals as goal

pub returns-in_err-put_classes : goal.returns-in_err-put_classes
returns-in_err-put_classes g c =
    let p = err_from_is_err_and c.from_residual.result c.from_residual.ensures.1 in
    rw (p.1, ← c.requires.list) (stopped_before _ _ _ _ c.in_err-put_classes.ensures)

pub returns-in_err-put_counts : goal.returns-in_err-put_counts
returns-in_err-put_counts g c =
    let p = err_from_is_err_and c.from_residual-in_err-put_counts.result
    c.from_residual-in_err-put_counts.ensures.1 in
    rw (
      p.1,
      ← c.requires.list,
      ← c.count.ensures,
      ← c.count-2.ensures,
    ) (stopped_after _ _ _ _ _ c.in_ok-put_classes.ensures c.in_err-put_counts.ensures)

pub returns : goal.returns
returns g c = rw (
  ← c.requires.list,
  ← c.count.ensures,
  ← c.count-2.ensures,
) (takes_more _ _ _ _ _ c.in_ok-put_classes.ensures c.in_ok-put_counts.ensures)
