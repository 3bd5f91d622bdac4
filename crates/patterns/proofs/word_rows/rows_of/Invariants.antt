use Rattle.std.proofs.Common.{◌≡◌, ℕ, ◌+◌, ◌*◌, ◌<◌, [], length, map, get_or}
use Rattle.std.specs.Prelude.{slice_range}
use Rattle.patterns.proofs.word_rows.rows_of.Given as goal

abbrev pub invariant-loop-block : goal.invariant-loop-block
invariant-loop-block l = record {
  count : length l.rows.items ≡ l.block;
  each : (b : ℕ) → b < l.block → get_or (map (λ row. row.items) l.rows.items) b []
      ≡ slice_range l.words (l.width * b) (l.width * b + l.width);
}
