use Rattle.std.{proofs.Common.{◌≡◌, ◌<◌, ◌≤◌, ℕ, length, map, take}, specs.List.list_all}
use Rattle.fault_model.specs.declared.Line.TheVariants as line
use Rattle.fault_model.specs.Fault.{Fault}
use Rattle.patterns.specs.Least.{below}
use Rattle.flat_circuit.{specs.GateForms.inverted_if, specs.Words.lane, proofs.GateLanes.pin_bit}
use Rattle.flat_circuit.proofs.words.all_with_stuck.Given as goal

abbrev pub invariant-loop-place : goal.invariant-loop-place
invariant-loop-place l = record {
  all : (f : Fault) (signal k : ℕ) → k < 128 → f.line ≡ line.Pin signal l.pin
      → lane l.stuck k ≡ f.stuck → lane l.all k
      ≡ list_all (λ b. inverted_if l.gate.form.inverts_inputs b)
      (take l.place (map (pin_bit f signal l.gate.pins.now l.words k)
      (below (length l.gate.pins.now))));
  within : l.place ≤ length l.gate.pins.now;
}
