use Rattle.std.proofs.Common.{◌≡◌, ◌<◌, ◌≤◌, ℕ, length, map, take}
use Rattle.fault_model.specs.Solution.{is_odd}
use Rattle.wide_words.specs.Wide.{number}
use Rattle.flat_circuit.specs.{SlotWords.copied_bit, Words.lane}
use Rattle.flat_circuit.proofs.four_words.wide_odd_of.Given as goal

abbrev pub invariant-loop-place : goal.invariant-loop-place
invariant-loop-place g l = record {
  odd : (k : ℕ) → k < 512 → lane (number l.odd) k
      ≡ is_odd (take l.place (map (copied_bit g.C.Copies.layout (g.C.Copies.rows l.copies) k)
      l.gate.pins.now));
  within : l.place ≤ length l.gate.pins.now;
}
