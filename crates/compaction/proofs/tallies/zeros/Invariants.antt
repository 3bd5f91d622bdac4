use Rattle.std.proofs.Common.{◌≡◌, All, length, replicate}
use Rattle.compaction.proofs.tallies.zeros.Given as goal

abbrev pub invariant-loop-group : goal.invariant-loop-group
invariant-loop-group l = record {
  count : length l.zeros.items ≡ l._group;
  zeros : All (λ words. words.items ≡ replicate l.digits 0) l.zeros.items;
}
