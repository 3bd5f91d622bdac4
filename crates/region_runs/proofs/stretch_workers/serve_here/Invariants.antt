use Rattle.std.proofs.Common.{◌≡◌, ◌<◌, ◌+◌, ℕ, Some, get_or, length}
use Rattle.std.specs.{Prelude.{IfOk, slice_get}, Vec.Iter.{into_iter_items, into_iter_len}}
use Rattle.fault_ledger.specs.Seats.{newcomer}
use Rattle.region_runs.specs.{Stretches.HasServed, Tasks.task_of}
use Rattle.region_runs.proofs.stretch_workers.serve_here.Given as goal

-- the seats that are left are those from the number of the results on, and each result is its
-- worker's
abbrev pub invariant-loop-seat : goal.invariant-loop-seat
invariant-loop-seat g l =
    let done = length l.back.items in
    record {
      count : done + into_iter_len l.seat-iterator ≡ l.ledger.shape.workers;
      left : (k : ℕ) (d : _) → k < into_iter_len l.seat-iterator
          → get_or (into_iter_items l.seat-iterator) k d ≡ newcomer l.ledger (done + k);
      each : (w : ℕ) (one : _) → slice_get l.back.items w ≡ Some one
          → IfOk one (λ served. HasServed (task_of l.job l.cut.from (g.A.Goal.wants l.goal)
          (g.A.Goal.means l.goal)) l.cut.size l.cut.classes.items l.ledger w
          (g.G.Gate.passing l.gate) (g.G.Gate.stops l.gate) served.seat served.dones.items);
    }
