use Rattle.std.proofs.Common.{◌≡◌, ◌+◌, ◌++◌, length}
use Rattle.std.specs.Vec.Iter.{into_iter_items, into_iter_len}
use Rattle.region_runs.specs.{StretchRuns.{IsLowest, WaitsIn, runs_from}, Tasks.task_of}
use Rattle.region_runs.proofs.list_run.lowest_waiting.Given as goal

abbrev pub invariant-loop-place : goal.invariant-loop-place
invariant-loop-place g l = record {
  order : l.yielded ++ into_iter_items l.place-iterator ≡ l.fn.table.items;
  count : length l.yielded ≡ l.stretch;
  left : l.stretch + into_iter_len l.place-iterator ≡ l.cut.stretches;
  lowest : IsLowest (WaitsIn (task_of l.job l.cut.from (g.A.Goal.wants l.goal)
      (g.A.Goal.means l.goal)) (runs_from l.cut.from l.cut.size l.cut.classes.items 0 l.yielded))
      l.lowest;
}
