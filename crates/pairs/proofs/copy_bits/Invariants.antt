use Rattle.std.{proofs.Common.{◌≡◌, ◌+◌, ◌<◌, ℕ, get_or}, specs.Prelude.Bool}
use Rattle.patterns.specs.Tests.{bit}
use Rattle.pairs.proofs.copy_bits.Given as goal

-- the bits before the place stay, and the bits from it on are copied so far
abbrev pub invariant-loop-source : goal.invariant-loop-source
invariant-loop-source l = record {
  kept : (k : ℕ) (d : Bool) → k < l.at → get_or l.row k d ≡ get_or l.initial.row k d;
  copied : (k : ℕ) (d : Bool) → l.from + k < l.source
      → get_or l.row (l.at + k) d ≡ bit l.tests.tests l.test (l.from + k);
}
