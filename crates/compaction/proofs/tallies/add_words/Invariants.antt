use Rattle.std.{proofs.Common.{◌≡◌, ◌+◌, ◌<◌, ◌≤◌, ℕ, [], get_or, length}, specs.Prelude.map}
use Rattle.patterns.specs.Tests.{as_number}
use Rattle.flat_circuit.specs.Words.{lane}
use Rattle.compaction.specs.Tallies.{number_in}
use Rattle.compaction.proofs.tallies.add_words.Given as goal

abbrev pub invariant-loop-group : goal.invariant-loop-group
invariant-loop-group l = record {
  long : map (λ words. length words.items) l.groups
      ≡ map (λ words. length words.items) l.initial.groups;
  done : (group k : ℕ) → group < l.group → k < 128
      → number_in (get_or (map (λ words. words.items) l.groups) group []) k
      ≡ number_in (get_or (map (λ words. words.items) l.initial.groups) group []) k
      + as_number (lane (get_or l.words group 0) k);
  left : (group : ℕ) → l.group ≤ group → get_or (map (λ words. words.items) l.groups) group []
      ≡ get_or (map (λ words. words.items) l.initial.groups) group [];
}
