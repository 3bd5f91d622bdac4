use Rattle.std.{proofs.Common.{◌≡◌, ℕ, ◌+◌, ◌<◌, ◌≤◌, ◌==◌, ◌⊎◌, get_or}, specs.Int.bit_at}
use Rattle.patterns.specs.Making.{digit}
use Rattle.patterns.proofs.test_text.write_digits.Given as goal

abbrev pub invariant-loop-source : goal.invariant-loop-source
invariant-loop-source l = record {
  digits : (k byte : ℕ) → k < l.source
      → get_or l.text (l.start + k) byte ≡ digit (bit_at (get_or l.words k 0) l.lane == 1);
  others : (k byte : ℕ) → (k < l.start) ⊎ (l.start + l.source ≤ k)
      → get_or l.text k byte ≡ get_or l.initial.text k byte;
}
