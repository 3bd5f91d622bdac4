use Rattle.std.{proofs.Common.{◌≡◌, ◌+◌, ◌<◌, ℕ, length}, specs.Prelude.None}
use Rattle.bench_net.specs.Scan.{names}
use Rattle.patterns.specs.Least.{below}
use Rattle.wide_words.specs.Layouts.{one_of}
use Rattle.flat_circuit.proofs.FlowPass.{ArePassed}
use Rattle.flat_circuit.proofs.four_words.evaluate_four.Given as goal

abbrev pub invariant-loop-signal : goal.invariant-loop-signal
invariant-loop-signal l = record {
  passed : (slot : ℕ) → slot < 4 → ArePassed l.circuit.arranged l.tests.tests (l.group + slot) None
      (below (length (names l.circuit.arranged)))
      (one_of l.first l.second l.third l.fourth slot) l.signal;
  first_room : length l.first ≡ length l.fn.first;
  second_room : length l.second ≡ length l.fn.second;
  third_room : length l.third ≡ length l.fn.third;
  fourth_room : length l.fourth ≡ length l.fn.fourth;
}
