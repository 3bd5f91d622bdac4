use Rattle.std.{proofs.Common.{◌≡◌, ◌<◌, ◌≤◌, ℕ, length, map, take}, specs.List.list_all}
use Rattle.flat_circuit.specs.{GateForms.inverted_if, Words.{lane, turned_word}}
use Rattle.flat_circuit.proofs.words.all_turned.Given as goal

abbrev pub invariant-loop-place : goal.invariant-loop-place
invariant-loop-place l = record {
  all : (k : ℕ) → k < 128 → lane l.all k ≡ list_all (λ b. inverted_if l.gate.form.inverts_inputs b)
      (take l.place (map (λ s. lane (turned_word l.words l.turned l.lanes s) k) l.gate.pins.now));
  within : l.place ≤ length l.gate.pins.now;
}
