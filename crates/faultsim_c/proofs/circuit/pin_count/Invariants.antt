use Rattle.std.proofs.Common.{◌≡◌, length}
use Rattle.faultsim_c.specs.Circuits.{fan_in, rows_before}
use Rattle.faultsim_c.proofs.circuit.pin_count.Given as goal

-- the pins of the signals so far
abbrev pub invariant-loop-signal : goal.invariant-loop-signal
invariant-loop-signal l = l.count ≡ length (rows_before (fan_in l.circuit) l.signal)
