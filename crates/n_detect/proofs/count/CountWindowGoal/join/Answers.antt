use Rattle.std.proofs.Common.{arith}
use Rattle.n_detect.proofs.JoinedCounts.{count_joined}
use Rattle.n_detect.proofs.count.CountWindowGoal.join.Goals as goal

pub returns : goal.returns
returns c = λ hits own low mid high le up few same was found.
    count_joined c.args.self.now.most c.args._start c.args.kept.now c.args.later.now
    c.least.result low mid high hits own le up same was found
    (omega (arith, c.least.ensures.least, c.saturating_add-more.ensures, c.least.ensures.fits))
