use Rattle.std.proofs.Common.{false, get_or}
use Rattle.patterns.proofs.Lanes.{IsSetBelow}
use Rattle.patterns.proofs.test_text.set_lane.Given as goal

abbrev pub invariant-loop-source : goal.invariant-loop-source
invariant-loop-source l =
    IsSetBelow l.initial.words l.words (λ source. get_or l.row source false) l.lane l.source
