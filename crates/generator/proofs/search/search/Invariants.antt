use Rattle.std.proofs.Common.{◌≡◌, ◌*◌, ◌<◌, ◌≤◌, All, length}
use Rattle.bench_net.specs.Scan.{sources}
use Rattle.generator.specs.{Held.AreAllowed, RandomTests.{after_rounds, numbers, seeded}}
use Rattle.generator.proofs.Searches.{IsSearching}
use Rattle.generator.proofs.search.search.Given as goal

-- The job keeps its circuit and its classes, and the remaining classes are among them. The kept
-- tests have its width, and there is room for them. The numbers are the ones after the rounds so
-- far, and the results of the search so far are known. The kept tests are allowed.
abbrev pub invariant-loop-round : goal.invariant-loop-round
invariant-loop-round g l = record {
  circuit : l.job.circuit ≡ l.fn.job.circuit;
  list : l.job.list ≡ l.fn.job.list;
  classes : l.job.classes ≡ l.fn.job.classes;
  few : length l.left.items ≤ length l.job.classes.representative;
  within : All (λ class. class < length l.job.classes.representative) l.left.items;
  width : l.kept.width ≡ l.initial.kept.width;
  kept : length l.kept.tests ≤ l.room;
  quiet : l.quiet < 64;
  allowed : AreAllowed l.bits l.kept.tests;
  rest : numbers l.rng ≡ after_rounds (length (sources l.fn.job.circuit) * l.blocks) l._round
      (numbers (seeded l.settings.seed));
  searching : IsSearching l.fn.job.list.model l.fn.job.circuit l.bits l.settings.seed l.blocks
      (length l.fn.job.classes.representative) l.left.items l.kept.tests l._round l.quiet;
}
