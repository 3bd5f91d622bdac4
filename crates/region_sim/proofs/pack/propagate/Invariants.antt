use Rattle.std.proofs.Common.{◌≡◌, ◌<◌, ◌≤◌, ◌-◌, ℕ, List, length, true, false}
use Rattle.bench_net.specs.{Circuit.IsWellFormed, Scan.names}
use Rattle.fault_model.specs.Solution.{Test}
use Rattle.wide_words.specs.Wide.{number}
use Rattle.flat_circuit.specs.{Readers.IsRising, Words.lane}
use Rattle.region_sim.{specs.Pack.{AreHitIn, AreRows}, proofs.PackLanes.ArePropagating}
use Rattle.region_sim.proofs.{PackStarts.{pack_moment, stem_lanes}, PackWords.differs_in}
use Rattle.region_sim.proofs.pack.propagate.Given as goal

abbrev pub invariant-loop-gate : goal.invariant-loop-gate
invariant-loop-gate g l = record {
  deltas : length l.deltas ≡ length l.initial.deltas;
  waiting : length l.waiting ≡ length l.initial.waiting;
  within : l.from ≤ length (names l.circuit.arranged);
  inside : (s k : ℕ) → k < 512 → differs_in l.deltas s k ≡ true
      → lane (number l.initial.found.kept) k ≡ true;
  narrow : (k : ℕ) → k < 512 → lane (number l.found.kept) k ≡ true
      → lane (number l.initial.found.kept) k ≡ true;
  settled : (k : ℕ) → k < 512 → lane (number l.initial.found.kept) k ≡ true
      → lane (number l.found.kept) k ≡ false → (g.G.Goal.ALL_LANES ≡ false)
      × AreHitIn g.C.Copies.layout l.stems l.followed (number l.found.seen) k;
  state : (tests : List Test) (group : ℕ → ℕ) (well : IsWellFormed l.circuit.arranged)
      (rising : IsRising l.circuit.arranged)
      (free : AreRows l.circuit.arranged tests g.C.Copies.layout group (g.C.Copies.rows l.copies))
      → ArePropagating l.circuit.arranged 512
      (stem_lanes g.C.Copies.layout g.C.Copies.sized l.circuit.arranged well rising tests group
      (g.C.Copies.rows l.copies) free l.stems)
      (pack_moment g.C.Copies.layout g.C.Copies.sized l.circuit.arranged well rising tests group
      (g.C.Copies.rows l.copies) free l.stems l.deltas l.waiting l.from (number l.found.kept)
      (number l.found.seen));
}

abbrev pub decreases-loop-gate : goal.decreases-loop-gate
decreases-loop-gate g l = length (names l.circuit.arranged) - l.from
