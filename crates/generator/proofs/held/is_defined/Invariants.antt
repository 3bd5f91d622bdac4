use Rattle.std.{proofs.Common.{◌≡◌, ◌<◌, ℕ, Some}, specs.Prelude.slice_get}
use Rattle.bench_net.specs.Scan.{names}
use Rattle.generator.proofs.held.is_defined.Given as goal

-- no signal before this one has the name
abbrev pub invariant-loop-signal : goal.invariant-loop-signal
invariant-loop-signal l = (k : ℕ) → k < l.signal → slice_get (names l.circuit) k ≡ Some l.name → ⊥
