use Rattle.std.proofs.Common.{◌≡◌, ◌<◌, ◌≤◌, ℕ, get_or}
use Rattle.compaction.proofs.steepest.best_of.Given as goal

abbrev pub invariant-loop-test : goal.invariant-loop-test
invariant-loop-test l = record {
  none : l.most ≡ 0 → l.best ≡ 0;
  within : 0 < l.most → l.best < l.test;
  own : 0 < l.most → get_or l.news l.best 0 ≡ l.most;
  most : (t : ℕ) → t < l.test → get_or l.news t 0 ≤ l.most;
  lowest : (t : ℕ) → t < l.best → get_or l.news t 0 < l.most;
}
