use Rattle.std.proofs.Common.{◌≡◌, ◌*◌, min}
use Rattle.patterns.specs.Tests.{TestList}
use Rattle.block_sim.specs.Parts.{with_tests}
use Rattle.region_runs.specs.{Tasks.task_of, WindowLedgers.AreOfWindows, Windows.AreKeptBelow}
use Rattle.region_runs.proofs.windows.run_windows.Given as goal

abbrev pub invariant-loop-number : goal.invariant-loop-number
invariant-loop-number g l = record {
  untouched : l.number ≡ 0 → l.job ≡ l.fn.job;
  job : (some : TestList) × (l.job ≡ with_tests l.fn.job some);
  kept : AreKeptBelow (task_of (with_tests l.fn.job l.tests) 0 (g.A.Goal.wants l.goal)
      (g.A.Goal.means l.goal)) (64 * min (l.number * l.step) l.blocks) l.classes l.kept.items;
  ledgers : AreOfWindows (task_of (with_tests l.fn.job l.tests) 0 (g.A.Goal.wants l.goal)
      (g.A.Goal.means l.goal)) l.workers l.classes (min (l.number * l.step) l.blocks) l.kept.items;
}
