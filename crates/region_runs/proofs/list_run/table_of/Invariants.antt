use Rattle.std.{proofs.Common.{◌≡◌, ◌++◌}, specs.Vec.Iter.into_iter_items}
use Rattle.region_runs.specs.StretchRuns.{AreGivenBack}
use Rattle.region_runs.proofs.list_run.table_of.Given as goal

abbrev pub invariant-loop-dones : goal.invariant-loop-dones
invariant-loop-dones g l = record {
  order : l.yielded ++ into_iter_items l.dones-iterator ≡ l.fn.back.items;
  given : AreGivenBack l.stretches l.yielded l.table.items;
}
