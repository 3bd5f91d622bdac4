use Rattle.std.{proofs.Common.{◌<◌, ℕ, get_or}, specs.Vec.Iter.{into_iter_items, into_iter_len}}
use Rattle.region_runs.specs.FaultFirsts.{AreFirstsFrom, HasFirsts}
use Rattle.region_runs.proofs.fault_firsts.join_firsts.Given as goal

abbrev pub invariant-loop-share : goal.invariant-loop-share
invariant-loop-share l = record {
  left : (k : ℕ) (d : _) → k < into_iter_len l.share-iterator
      → HasFirsts l.job.classes.class_of l.ordered.positions.items l.ordered.firsts.items
      (get_or (into_iter_items l.share-iterator) k d);
  firsts : AreFirstsFrom l.job.classes.class_of l.ordered.positions.items
      l.ordered.firsts.items 0 l.all.items;
}
