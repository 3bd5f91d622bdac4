use Rattle.std.proofs.Common.{◌≡◌, ◌<◌, ℕ, map, slice_get}
use Rattle.bench_net.specs.Scan.{sources}
use Rattle.test_columns.proofs.order.first_difference.Given as goal

-- the names before the place are the same
abbrev pub invariant-loop-place : goal.invariant-loop-place
invariant-loop-place l = (k : ℕ) → k < l.place
    → slice_get (map (λ name. name.now) l.names) k ≡ slice_get (sources l.circuit) k
