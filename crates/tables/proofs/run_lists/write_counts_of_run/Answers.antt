use Rattle.std.proofs.{Common.{ap, arith, length, refl}, lemmas.Result.err_from_is_err_and}
use Rattle.fault_model.specs.Fault.{FaultList}
use Rattle.region_runs.specs.RunJobs.{RunView}
use Rattle.tables.proofs.run_lists.write_counts_of_run.Goals as goal

pub histogram_texts-requires : goal.histogram_texts-requires
histogram_texts-requires g c =
    let kept = ap (λ (l : FaultList). length l.list) c.job.ensures.list in
    let same = ap (λ (r : RunView). length r.whole.list.list) c.in_ok-counts.ensures.same in
    let listed = ap (λ (l : FaultList). length l.list) c.requires.job.list in
    let own = ap (λ (l : FaultList). length l.list) c.faults.ensures.part in
    omega (
      arith,
      ap length c.deref.ensures.value,
      c.in_ok-counts.ensures.counts.count,
      kept,
      same,
      listed,
      own,
      c.count-faults.ensures,
    )

pub returns-in_err-write_texts-clause-written : goal.returns-in_err-write_texts-clause-written
returns-in_err-write_texts-clause-written g c =
    let p = err_from_is_err_and c.from_residual-in_err-write_texts.result
    c.from_residual-in_err-write_texts.ensures.1 in
    let made = rw (c.deref.ensures.value) at c.in-Ok.ensures in
    let wrote = rw (c.deref-2.ensures.value, made) at c.in_err-write_texts.ensures in
    rw (p.1, p.2) (_, (c.in_ok-counts.counts.items, c.in_ok-counts.ensures.counts, refl), wrote)

pub returns-clause-written : goal.returns-clause-written
returns-clause-written g c =
    let made = rw (c.deref.ensures.value) at c.in-Ok.ensures in
    let wrote = rw (c.deref-2.ensures.value, made) at c.in_ok-write_texts.ensures in
    (_, (c.in_ok-counts.counts.items, c.in_ok-counts.ensures.counts, refl), wrote)
