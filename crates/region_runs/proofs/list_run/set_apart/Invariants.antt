use Rattle.std.{proofs.Common.{◌≡◌, ◌++◌}, specs.Vec.Iter.into_iter_items}
use Rattle.region_runs.specs.Stretches.{AreApart}
use Rattle.region_runs.proofs.list_run.set_apart.Given as goal

abbrev pub invariant-loop-one : goal.invariant-loop-one
invariant-loop-one g l = record {
  order : l.yielded ++ into_iter_items l.one-iterator ≡ l.fn.back.items;
  apart : AreApart l.yielded l.seats.items l.dones.items;
}
