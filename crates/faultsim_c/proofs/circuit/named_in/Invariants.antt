use Rattle.std.proofs.Common.{◌≡◌, ◌≢◌, ℕ, ◌<◌, Some}
use Rattle.bench_net.specs.Scan.{name_of}
use Rattle.faultsim_c.proofs.circuit.named_in.Given as goal

-- no signal so far has the name
abbrev pub invariant-loop-number : goal.invariant-loop-number
invariant-loop-number l = (l.signal ≡ l.fn.signal)
    × ((s : ℕ) → s < l.number → name_of l.job.circuit s ≢ Some l.name)
