use Rattle.std.proofs.Common.{◌*◌, subst, true}
use Rattle.region_sim.specs.Goals.{TellHits}
use Rattle.n_detect.proofs.GroupWords.{lanes_more, lanes_same}
use Rattle.n_detect.proofs.lanes.GroupLanesGoal.take.Goals as goal

pub returns-then-group-self : goal.returns-then-group-self
returns-then-group-self c = λ hits low from to le tells was.
    lanes_more c.args.self.now.group hits low from to le c.args.kept.now c.args.lanes
    (subst (λ g. TellHits true hits (128 * g) from to c.args.lanes) c.if-group-self.true tells) was

pub returns-else-group-self : goal.returns-else-group-self
returns-else-group-self c = λ hits low from to le tells was.
    lanes_same c.args.self.now.group hits low from to le c.args.group c.args.kept.now c.args.lanes
    c.if-group-self.false tells was
