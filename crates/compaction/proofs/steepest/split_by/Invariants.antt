use Rattle.std.{proofs.Common.{◌≡◌, not, take}, specs.Prelude.filter}
use Rattle.compaction.specs.Detections.{detects_by}
use Rattle.compaction.proofs.steepest.split_by.Given as goal

abbrev pub invariant-loop-class : goal.invariant-loop-class
invariant-loop-class l = record {
  detected : l.detected.items
      ≡ filter (λ class. detects_by l.detections class l.test) (take l.class-index l.classes);
  others : l.others.items
      ≡ filter (λ class. not (detects_by l.detections class l.test)) (take l.class-index l.classes);
}
