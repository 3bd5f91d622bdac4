use Rattle.std.proofs.Common.{◌≡◌, ◌+◌, ◌*◌, ◌++◌, length}
use Rattle.std.specs.Vec.Iter.{into_iter_items, into_iter_len}
use Rattle.region_runs.{specs.Tasks.task_of, proofs.PartsOfClasses.AreKeptBelow}
use Rattle.region_runs.proofs.list_run.joined.Given as goal

abbrev pub invariant-loop-place : goal.invariant-loop-place
invariant-loop-place g l = record {
  order : l.yielded ++ into_iter_items l.place-iterator ≡ l.fn.table.items;
  left : length l.yielded + into_iter_len l.place-iterator ≡ l.cut.stretches;
  found : AreKeptBelow (task_of l.job l.cut.from (g.A.Goal.wants l.goal)
      (g.A.Goal.means l.goal)) l.cut.classes.items (length l.yielded * l.cut.size) l.kept.items;
}
