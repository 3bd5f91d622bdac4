use Rattle.std.proofs.Common.{◌≡◌, ◌-◌, None}
use Rattle.region_sim.specs.RegionHits.{ServesRegions}
use Rattle.fault_ledger.specs.History.{claims, held_by, piece_count}
use Rattle.region_runs.{specs.Tasks.task_of, proofs.StretchSeats.Serving}
use Rattle.region_runs.proofs.stretch_workers.serve_seat.Given as goal

abbrev pub invariant-claims : goal.invariant-claims
invariant-claims g l = record {
  number : l.member.number ≡ l.fn.seat.worker;
  room : ServesRegions l.member.simulation l.job 0;
  serving : Serving (task_of l.job l.cut.from (g.A.Goal.wants l.goal)
      (g.A.Goal.means l.goal)) l.cut.size l.cut.classes.items l.ledger l.fn.seat.worker
      (g.G.Gate.passing l.gate) (g.G.Gate.stops l.gate) l.seat l.dones.items;
  free : held_by l.seat.worker l.seat.seen ≡ None;
}

abbrev pub decreases-claims : goal.decreases-claims
decreases-claims g l = piece_count l.ledger.shape - claims l.seat.seen
