use Rattle.blocking_pins.proofs.ListedFaults.{stuck_listed}
use Rattle.blocking_pins.proofs.counting.stuck_of.Goals as goal

pub returns : goal.returns
returns c = λ f at. stuck_listed c.args.job.now c.faults-list.result.now c.args.fault f
    c.model.result c.line_of.result c.stuck_of.result c.faults-list.ensures.together
    c.faults-list.ensures.part at c.model.ensures c.line_of.ensures c.stuck_of.ensures
