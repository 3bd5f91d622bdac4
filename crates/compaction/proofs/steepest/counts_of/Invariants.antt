use Rattle.std.{proofs.Common.{◌≡◌, length, take}, specs.Prelude.map}
use Rattle.flat_circuit.specs.BlockSpans.{groups}
use Rattle.compaction.specs.{Detections.detects_by, Tallies.AreTallied}
use Rattle.compaction.proofs.steepest.counts_of.Given as goal

abbrev pub invariant-loop-class : goal.invariant-loop-class
invariant-loop-class l = record {
  count : length l.groups.items ≡ groups l.detections.tests;
  tallied : AreTallied (detects_by l.detections) (take l.class-index l.classes) l.digits
      (map (λ words. words.items) l.groups.items);
}
