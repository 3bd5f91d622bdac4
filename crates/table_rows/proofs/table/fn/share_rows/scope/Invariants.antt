use Rattle.std.proofs.Common.{◌≡◌, ◌+◌, ◌*◌, ◌<◌, ℕ, get_or, length, vec_items, vec_len}
use Rattle.std.specs.Prelude.{min}
use Rattle.table_rows.proofs.table.fn.share_rows.scope.Given as goal

-- each handle is promised its stretch of the rows
abbrev pub invariant-loop-thread : goal.invariant-loop-thread
invariant-loop-thread g l = record {
  low : l.start ≡ min (vec_len l.handles * l.size) (length (g.T.Rows.table l.rows).rows);
  each : (k : ℕ) (d : _) → k < vec_len l.handles
      → ((get_or (vec_items l.handles) k d).promise.rows.value ≡ l.rows)
      × ((get_or (vec_items l.handles) k d).promise.format ≡ l.format)
      × ((get_or (vec_items l.handles) k d).promise.start
      ≡ min (k * l.size) (length (g.T.Rows.table l.rows).rows))
      × ((get_or (vec_items l.handles) k d).promise.end
      ≡ min ((k + 1) * l.size) (length (g.T.Rows.table l.rows).rows));
}
