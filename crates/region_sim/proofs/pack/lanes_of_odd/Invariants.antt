use Rattle.std.{proofs.Common.{◌≡◌, ◌<◌, ◌≤◌, ℕ, length, map, take}, specs.Prelude.slice_index_or}
use Rattle.fault_model.specs.Solution.{is_odd}
use Rattle.wide_words.specs.Wide.{number}
use Rattle.flat_circuit.specs.Words.{lane}
use Rattle.region_sim.proofs.pack.lanes_of_odd.Given as goal

abbrev pub invariant-loop-place : goal.invariant-loop-place
invariant-loop-place l = record {
  odd : (k : ℕ) → k < 512 → lane (number l.odd) k
      ≡ is_odd (take l.place (map (λ s. lane (slice_index_or l.deltas s 0) k) l.gate.pins.now));
  within : l.place ≤ length l.gate.pins.now;
}
