use Rattle.std.{proofs.Common.{◌≡◌, ℕ, ◌<◌, length}, specs.Prelude.slice_index}
use Rattle.bench_net.specs.Scan.{gate_of}
use Rattle.faultsim_c.specs.Circuits.{kind_number}
use Rattle.faultsim_c.proofs.circuit.fill_kinds.Given as goal

-- the kinds of the signals so far stand in their places
abbrev pub invariant-loop-signal : goal.invariant-loop-signal
invariant-loop-signal l = (length l.kinds ≡ length l.fn.kinds)
    × ((k : ℕ) → k < l.signal → slice_index l.kinds k ≡ kind_number (gate_of l.circuit k))
