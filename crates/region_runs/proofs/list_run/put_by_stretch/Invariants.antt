use Rattle.std.{proofs.Common.{◌≡◌, ◌++◌}, specs.Vec.Iter.into_iter_items}
use Rattle.region_runs.specs.StretchRuns.{ArePut}
use Rattle.region_runs.proofs.list_run.put_by_stretch.Given as goal

abbrev pub invariant-loop-done : goal.invariant-loop-done
invariant-loop-done g l = record {
  order : l.yielded ++ into_iter_items l.done-iterator ≡ l.fn.dones.items;
  put : ArePut l.fn.table.items l.yielded l.table.items;
}
