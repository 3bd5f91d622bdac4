use Rattle.std.proofs.Common.{◌*◌}
use Rattle.compaction.proofs.LastTests.{last_taken, none_taken}
use Rattle.compaction.proofs.lasting.LastTestGoal.take.Goals as goal

pub returns-in-Some : goal.returns-in-Some
returns-in-Some c = λ hits low from to le tells was.
    last_taken hits (128 * c.args.group) low from to c.args.lanes le tells c.in-Some.lane
    c.in-Some.ensures.bound c.in-Some.ensures.power_le c.in-Some.ensures.next_power_gt

pub returns-in-None : goal.returns-in-None
returns-in-None c = λ hits low from to le tells was.
    none_taken hits (128 * c.args.group) low from to c.args.lanes le tells c.args.kept.now
    c.in-None.ensures.none was
