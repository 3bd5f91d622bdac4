use Rattle.std.proofs.Common.{◌≡◌, ◌<◌, ◌+◌, ℕ, get_or, vec_items, vec_len}
use Rattle.std.specs.Vec.Iter.{into_iter_items, into_iter_len}
use Rattle.fault_ledger.specs.Seats.{newcomer}
use Rattle.region_runs.proofs.stretch_workers.fn.take_stretches.scope.Given as goal

-- the seats that are left are those from the number of the handles on, and each handle is promised
-- the seat of its worker and what that found
abbrev pub invariant-loop-seat : goal.invariant-loop-seat
invariant-loop-seat g l =
    let done = vec_len l.handles in let rest = l.seat-iterator in
    record {
      sum : done + into_iter_len rest ≡ l.ledger.now.shape.workers;
      left : (k : ℕ) (d : _) → k < into_iter_len rest
          → get_or (into_iter_items rest) k d ≡ newcomer l.ledger.now (done + k);
      each : (k : ℕ) (d : _) → k < done
          → ((get_or (vec_items l.handles) k d).promise.job.value ≡ l.job.now)
          × ((get_or (vec_items l.handles) k d).promise.ledger.value ≡ l.ledger.now)
          × ((get_or (vec_items l.handles) k d).promise.gate.value ≡ l.gate.now)
          × ((get_or (vec_items l.handles) k d).promise.worker ≡ k)
          × ((get_or (vec_items l.handles) k d).promise.cut.value ≡ l.cut.now)
          × ((get_or (vec_items l.handles) k d).promise.goal.value ≡ l.goal.now);
    }
