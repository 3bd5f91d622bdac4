use Rattle.std.{proofs.Common.{◌≡◌, ◌<◌, ℕ, Some}, specs.Prelude.slice_get}
use Rattle.bench_net.specs.Scan.{sources}
use Rattle.generator.proofs.held.column_of.Given as goal

-- no source before the place has the name
abbrev pub invariant-loop-place : goal.invariant-loop-place
invariant-loop-place l = (k : ℕ) → k < l.place → slice_get (sources l.circuit) k ≡ Some l.name → ⊥
