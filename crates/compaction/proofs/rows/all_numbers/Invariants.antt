use Rattle.std.proofs.Common.{◌≡◌}
use Rattle.patterns.specs.Least.{below}
use Rattle.compaction.proofs.rows.all_numbers.Given as goal

abbrev pub invariant-loop-test : goal.invariant-loop-test
invariant-loop-test l = l.numbers.items ≡ below l.test
