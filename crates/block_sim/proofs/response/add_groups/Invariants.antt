use Rattle.std.proofs.Common.{◌≡◌, ◌*◌, length, min}
use Rattle.bench_net.specs.Scan.{names}
use Rattle.block_sim.proofs.ResponseRows.{AreFirstResponses}
use Rattle.block_sim.proofs.response.add_groups.Given as goal

abbrev pub invariant-loop-group : goal.invariant-loop-group
invariant-loop-group l = record {
  rows : AreFirstResponses l.circuit.arranged l.tests.tests
      (min (128 * l.group) (length l.tests.tests)) l.rows.tests;
  width : l.rows.width ≡ length l.observed;
  words : length l.words ≡ length (names l.circuit.arranged);
}
