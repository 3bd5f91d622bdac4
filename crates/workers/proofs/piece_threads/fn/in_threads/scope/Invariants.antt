use Rattle.std.proofs.Common.{◌≡◌, ◌<◌, ◌+◌, ℕ, get_or, vec_items, vec_len}
use Rattle.std.specs.Vec.Iter.{into_iter_items, into_iter_len}
use Rattle.fault_ledger.specs.Seats.{newcomer}
use Rattle.block_sim.specs.Parts.{HasRoom}
use Rattle.workers.proofs.piece_threads.fn.in_threads.scope.Given as goal

-- the workers that are left are those from the number of the handles on, and each handle is
-- promised the seat of its worker
abbrev pub invariant-loop-worker : goal.invariant-loop-worker
invariant-loop-worker g l =
    let done = vec_len l.handles in let rest = l.worker-iterator in
    record {
      sum : done + into_iter_len rest ≡ l.ledger.now.shape.workers;
      left : (k : ℕ) (d : _) → k < into_iter_len rest
          → ((get_or (into_iter_items rest) k d).seat ≡ newcomer l.ledger.now (done + k))
          × HasRoom (get_or (into_iter_items rest) k d).workspace l.job.now;
      each : (k : ℕ) (d : _) → k < done
          → ((get_or (vec_items l.handles) k d).promise.job.value ≡ l.job.now)
          × ((get_or (vec_items l.handles) k d).promise.ledger.value ≡ l.ledger.now)
          × ((get_or (vec_items l.handles) k d).promise.gate.value ≡ l.gate.now)
          × ((get_or (vec_items l.handles) k d).promise.worker ≡ k);
    }
