use Rattle.std.{proofs.Common.{◌≡◌, ◌<◌, ◌≤◌, ℕ, length, map, take}, specs.List.list_all}
use Rattle.wide_words.specs.Wide.{number}
use Rattle.flat_circuit.specs.{GateForms.inverted_if, SlotWords.copied_bit, Words.lane}
use Rattle.flat_circuit.proofs.four_words.wide_all_of.Given as goal

abbrev pub invariant-loop-place : goal.invariant-loop-place
invariant-loop-place g l = record {
  all : (k : ℕ) → k < 512 → lane (number l.all) k
      ≡ list_all (λ b. inverted_if l.gate.form.inverts_inputs b)
      (take l.place (map (copied_bit g.C.Copies.layout (g.C.Copies.rows l.copies) k)
      l.gate.pins.now));
  within : l.place ≤ length l.gate.pins.now;
}
