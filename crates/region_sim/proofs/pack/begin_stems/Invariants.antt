use Rattle.std.proofs.Common.{◌≡◌, ◌≤◌, length}
use Rattle.bench_net.specs.Scan.{names}
use Rattle.wide_words.specs.Wide.{number}
use Rattle.region_sim.proofs.PackBegins.{HaveBegun}
use Rattle.region_sim.proofs.pack.begin_stems.Given as goal

abbrev pub invariant-loop-slot : goal.invariant-loop-slot
invariant-loop-slot g l = record {
  begun : HaveBegun g.C.Copies.layout l.circuit.arranged l.stems l.followed l.deltas l.waiting
      (number l.kept) l.from l.slot;
  within : l.from ≤ length (names l.circuit.arranged);
  deltas : length l.deltas ≡ length l.initial.deltas;
  waiting : length l.waiting ≡ length l.initial.waiting;
}
