use Rattle.std.proofs.Common.{◌≡◌, ◌<◌, ◌≤◌, ℕ, length, take}
use Rattle.fault_model.specs.Solution.{is_odd}
use Rattle.wide_words.specs.Wide.{number}
use Rattle.region_sim.specs.Units.{turned_bits}
use Rattle.flat_circuit.specs.Words.{lane}
use Rattle.region_sim.proofs.unit_gate.odd_turned.Given as goal

abbrev pub invariant-loop-place : goal.invariant-loop-place
invariant-loop-place g l = record {
  odd : (k : ℕ) → k < 512 → lane (number l.odd) k
      ≡ is_odd (take l.place (turned_bits g.C.Copies.layout (g.C.Copies.rows l.copies) l.turned
      (number l.lanes) l.gate.pins.now k));
  within : l.place ≤ length l.gate.pins.now;
}
