use Rattle.std.{proofs.Common.{◌∙◌, ap, arith, map, min, subst, sym}, specs.Prelude.nat_lt}
use Rattle.region_runs.specs.Tasks.{AreKept, task_of}
use Rattle.n_detect.{specs.HitCounts.{IsHitCount, one_of}, proofs.Public.ones_kept}
use Rattle.class_lists.proofs.count.counts_of.Goals as goal

pub returns-then-most-lt2-clause-counts : goal.returns-then-most-lt2-clause-counts
returns-then-most-lt2-clause-counts c =
    let most = c.args.most in
    let job = c.args.job.now in
    let classes = c.args.classes.now in
    subst (AreKept (task_of job 0 (λ n. nat_lt n most) (IsHitCount most)) classes)
    (sym (c.in_ok-ones.ensures ∙ ap (map (λ first. min most (one_of first)))
    c.as_slice.ensures.value))
    (ones_kept job most classes c.in_ok-firsts.firsts.items (omega (arith, c.if-most-lt2.true))
    c.in_ok-firsts.ensures.kept)
