use Rattle.std.proofs.Common.{◌≡◌, ◌*◌, min}
use Rattle.patterns.specs.Tests.{TestList}
use Rattle.block_sim.specs.Parts.{with_tests}
use Rattle.region_runs.proofs.word_reader.read_in_windows.Given as goal

-- the reader has read the windows so far
abbrev pub invariant-loop-number : goal.invariant-loop-number
invariant-loop-number g l = record {
  job : (some : TestList) × (l.job ≡ with_tests l.fn.job some);
  gathered : g.V.WordReader.gathered l.reader (with_tests l.fn.job l.tests)
      (64 * min (l.number * l.step) l.blocks);
}
