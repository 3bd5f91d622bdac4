use Rattle.std.{proofs.Common.{◌≡◌, ◌<◌, ◌/◌, ◌%◌, ℕ, [], get_or, length}, specs.Prelude.map}
use Rattle.compaction.specs.Tallies.{number_in}
use Rattle.compaction.proofs.tallies.numbers_of.Given as goal

abbrev pub invariant-loop-test : goal.invariant-loop-test
invariant-loop-test l = record {
  count : length l.numbers.items ≡ l.test;
  each : (t : ℕ) → t < l.test → get_or l.numbers.items t 0
      ≡ number_in (get_or (map (λ words. words.items) l.groups) (t / 128) []) (t % 128);
}
