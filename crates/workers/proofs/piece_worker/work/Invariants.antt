use Rattle.std.{proofs.Common.{◌≡◌, ◌-◌, ◌≤◌}, specs.Prelude.None}
use Rattle.block_sim.specs.Parts.{HasRoom}
use Rattle.fault_ledger.specs.History.{claims, held_by, piece_count}
use Rattle.workers.specs.{Settling.AreSettled, Work.Works}
use Rattle.workers.proofs.piece_worker.work.Given as goal

abbrev pub invariant-claims : goal.invariant-claims
invariant-claims g l = record {
  works : Works l.job l.fn.seat l.seat;
  free : held_by l.seat.worker l.seat.seen ≡ None;
  fits : HasRoom l.workspace l.job;
  range : l.lowest ≤ l.classes;
  settled : AreSettled l.ledger.shape l.seat.seen l.lowest;
}

abbrev pub decreases-claims : goal.decreases-claims
decreases-claims g l = piece_count l.ledger.shape - claims l.seat.seen
