use Rattle.std.{proofs.Common.{◌≡◌, ◌<◌, ℕ, get_or}, specs.Prelude.Bool}
use Rattle.patterns.specs.Tests.{bit}
use Rattle.generator.proofs.keeping.read_row.Given as goal

abbrev pub invariant-loop-source : goal.invariant-loop-source
invariant-loop-source l = (k : ℕ) (d : Bool) → k < l.source
    → get_or l.row k d ≡ bit l.tests.tests l.test k
