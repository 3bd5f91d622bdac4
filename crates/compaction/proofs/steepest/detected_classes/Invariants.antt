use Rattle.std.{proofs.Common.◌≡◌, specs.Prelude.filter}
use Rattle.patterns.specs.Least.{below}
use Rattle.compaction.specs.Detections.{is_detected}
use Rattle.compaction.proofs.steepest.detected_classes.Given as goal

abbrev pub invariant-loop-class : goal.invariant-loop-class
invariant-loop-class l = l.left.items ≡ filter (is_detected l.detections) (below l.class)
