use Rattle.std.proofs.Common.{ap, arith, length}
use Rattle.undetected.proofs.KnownReasons.{list_is, reason_known}
use Rattle.undetected.proofs.finding.reason_at.Goals as goal

pub first-requires : goal.first-requires
first-requires c =
    let list = ap length (list_is c.args.run.now.whole c.requires.together) in
    omega (arith, list, c.requires.firsts.count, c.requires.fault)

pub returns-in-None : goal.returns-in-None
returns-in-None c = λ f first at found.
    reason_known c.args.run.now.whole c.args.verdicts.now.firsts c.args.fault f c.first.result first
    c.reason_of.result c.requires.together c.requires.firsts at c.first.ensures c.in-None.is found
    (c.reason_of.ensures f at)
