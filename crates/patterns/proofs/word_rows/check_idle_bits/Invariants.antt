use Rattle.std.proofs.Common.{ℕ, ◌+◌, ◌^◌, ◌<◌, get_or}
use Rattle.patterns.proofs.word_rows.check_idle_bits.Given as goal

abbrev pub invariant-loop-source : goal.invariant-loop-source
invariant-loop-source l = (lower : ℕ) → lower < l.source
    → get_or l.words (l.last + lower) 0 < 2 ^ l.lanes
