use Rattle.std.proofs.Common.{◌≡◌, ◌<◌, ◌≤◌, ℕ, length, map, take}
use Rattle.fault_model.specs.Solution.{is_odd}
use Rattle.flat_circuit.specs.Words.{lane, turned_word}
use Rattle.flat_circuit.proofs.words.odd_turned.Given as goal

abbrev pub invariant-loop-place : goal.invariant-loop-place
invariant-loop-place l = record {
  odd : (k : ℕ) → k < 128 → lane l.odd k ≡ is_odd (take l.place
      (map (λ s. lane (turned_word l.words l.turned l.lanes s) k) l.gate.pins.now));
  within : l.place ≤ length l.gate.pins.now;
}
