use Rattle.std.proofs.Common.{arith}
use Rattle.event_queue.proofs.Flags.{first_flag, first_flag_least}
use Rattle.event_queue.proofs.places.first_marked.Goals as goal

pub returns-then-marks-ne0-clause-some : goal.returns-then-marks-ne0-clause-some
returns-then-marks-ne0-clause-some c =
    first_flag c.args.summary.now c.loop-at.at c.if-marks-ne0.true (omega arith)

pub returns-then-marks-ne0-clause-least : goal.returns-then-marks-ne0-clause-least
returns-then-marks-ne0-clause-least c = λ w from on.
    first_flag_least c.args.summary.now c.loop-at.at c.args.from c.if-marks-ne0.true (omega arith)
    c.loop-at.invariant.none w from on
