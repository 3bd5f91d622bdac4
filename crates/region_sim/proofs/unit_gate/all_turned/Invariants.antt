use Rattle.std.{proofs.Common.{◌≡◌, ◌<◌, ◌≤◌, ℕ, length, take}, specs.List.list_all}
use Rattle.wide_words.specs.Wide.{number}
use Rattle.flat_circuit.specs.{GateForms.inverted_if, Words.lane}
use Rattle.region_sim.specs.Units.{turned_bits}
use Rattle.region_sim.proofs.unit_gate.all_turned.Given as goal

abbrev pub invariant-loop-place : goal.invariant-loop-place
invariant-loop-place g l = record {
  all : (k : ℕ) → k < 512 → lane (number l.all) k
      ≡ list_all (λ b. inverted_if l.gate.form.inverts_inputs b)
      (take l.place (turned_bits g.C.Copies.layout (g.C.Copies.rows l.copies) l.turned
      (number l.lanes) l.gate.pins.now k));
  within : l.place ≤ length l.gate.pins.now;
}
