use Rattle.std.proofs.Common.{rules, ◌≡◌, ◌≤◌, subst, sym}
use Rattle.patterns.specs.Tests.{max_pieces}
use Rattle.region_runs.{specs.Part.stretch_count, proofs.SharedStretches.filled_max}
use Rattle.region_runs.proofs.stretches.filled.Goals as goal

pub returns-clause-few : goal.returns-clause-few
returns-clause-few c =
    let size = c.args.cut.now.size in
    let classes = c.args.cut.now.classes.items in
    let is : c.div_ceil.result ≡ stretch_count size classes = search rules in
    subst (λ n. n ≤ max_pieces) (sym is)
    (filled_max c.args.job.now c.args.cut.now.from c.args.cut.now.stretches size classes
    c.count_in.ensures.together c.requires)
