use Rattle.std.proofs.Common.{◌≡◌, length}
use Rattle.bench_net.specs.Scan.{names}
use Rattle.flat_circuit.proofs.Stems.{StemsFrom}
use Rattle.flat_circuit.proofs.region_classes.find_stems.Given as goal

abbrev pub invariant-loop-place : goal.invariant-loop-place
invariant-loop-place l = record {
  room : length l.stems ≡ length (names l.circuit);
  known : StemsFrom l.circuit l.order l.stems l.place;
}
