use Rattle.std.proofs.Common.{◌≤◌, ◌-◌}
use Rattle.region_runs.specs.Windows.{AreWordsFrom}
use Rattle.region_runs.proofs.windows.tests_of.Given as goal

abbrev pub invariant-loop-block : goal.invariant-loop-block
invariant-loop-block l = record {
  order : l.window.from ≤ l.block;
  words : AreWordsFrom l.tests l.window.from (l.block - l.window.from) l.words.items;
}
