use Rattle.std.{proofs.Common.{◌≡◌, length}, specs.Prelude.None}
use Rattle.bench_net.specs.Scan.{names}
use Rattle.patterns.specs.Least.{below}
use Rattle.flat_circuit.proofs.FlowPass.{ArePassed}
use Rattle.flat_circuit.proofs.words.evaluate.Given as goal

abbrev pub invariant-loop-signal : goal.invariant-loop-signal
invariant-loop-signal l = record {
  passed : ArePassed l.circuit.arranged l.tests.tests l.group None
      (below (length (names l.circuit.arranged))) l.words l.signal;
  room : length l.words ≡ length l.fn.words;
}
