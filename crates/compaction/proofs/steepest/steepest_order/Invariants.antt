use Rattle.std.proofs.Common.{◌<◌, ◌^◌, length}
use Rattle.compaction.{specs.Detections.{detects_by, is_detected}, proofs.SteepestOrder.IsSoFar}
use Rattle.compaction.proofs.steepest.steepest_order.Given as goal

abbrev pub invariant-loop-best : goal.invariant-loop-best
invariant-loop-best l = record {
  few : length l.news.items < 2 ^ 32;
  so : IsSoFar (is_detected l.detections) (detects_by l.detections)
      (length l.detections.words) l.detections.tests l.order.items l.left.items l.news.items;
}

abbrev pub decreases-loop-best : goal.decreases-loop-best
decreases-loop-best l = length l.left.items
