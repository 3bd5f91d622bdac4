use Rattle.std.{proofs.Common.{◌≡◌, ◌++◌, map, All}, specs.Vec.Iter.into_iter_items}
use Rattle.block_sim.specs.Parts.{HasRoom}
use Rattle.workers.proofs.piece_threads.workers_of.Given as goal

abbrev pub invariant-loop-seat : goal.invariant-loop-seat
invariant-loop-seat l = record {
  order : l.yielded ++ into_iter_items l.seat-iterator ≡ into_iter_items l.initial.seat-iterator;
  seats : map (λ w. w.seat) l.workers.items ≡ l.yielded;
  fits : All (λ w. HasRoom w.workspace l.job) l.workers.items;
}
