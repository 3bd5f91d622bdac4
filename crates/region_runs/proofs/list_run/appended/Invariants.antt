use Rattle.std.{proofs.Common.{◌≡◌, ◌++◌}, specs.Vec.Iter.into_iter_items}
use Rattle.region_runs.proofs.list_run.appended.Given as goal

abbrev pub invariant-loop-value : goal.invariant-loop-value
invariant-loop-value g l =
    l.values.items ++ into_iter_items l.value-iterator ≡ l.fn.values.items ++ l.fn.more.items
