use Rattle.std.{proofs.Common.{◌≡◌, ◌<◌, ◌≤◌, ℕ, length, map, take}, specs.Prelude.slice_index_or}
use Rattle.fault_model.specs.Solution.{is_odd}
use Rattle.flat_circuit.specs.Words.{lane}
use Rattle.flat_circuit.proofs.words.odd_of.Given as goal

abbrev pub invariant-loop-place : goal.invariant-loop-place
invariant-loop-place l = record {
  odd : (k : ℕ) → k < 128 → lane l.odd k
      ≡ is_odd (take l.place (map (λ s. lane (slice_index_or l.words s 0) k) l.gate.pins.now));
  within : l.place ≤ length l.gate.pins.now;
}
