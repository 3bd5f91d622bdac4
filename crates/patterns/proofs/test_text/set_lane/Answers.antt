use Rattle.std.proofs.Common.{false, get_or, w64, arith}
use Rattle.patterns.proofs.Lanes.{IsSetBelow-bit}
use Rattle.patterns.proofs.test_text.set_lane.Goals as goal

pub loop-source-preserved : goal.loop-source-preserved
loop-source-preserved c =
    IsSetBelow-bit w64 _ _ (λ source. get_or c.args.row.now source false) _ _ _
    (λ is_one. rw is_one at c.from.ensures) (λ is_zero. rw is_zero at c.from.ensures)
    c.requires.lane (omega arith) c.loop-source.invariant
