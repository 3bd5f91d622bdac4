use Rattle.std.proofs.Common.{◌*◌, arith}
use Rattle.n_detect.proofs.TakenCounts.{count_taken}
use Rattle.n_detect.proofs.count.CountGoal.take.Goals as goal

pub returns : goal.returns
returns c = λ hits low from to le tells was.
    count_taken hits (128 * c.args._group) from to c.args.lanes (omega arith) tells
    c.args.self.now.most low c.args.kept.now c.least.result le
    (omega (arith, c.least.ensures.least, c.saturating_add-more.ensures, c.least.ensures.fits)) was
