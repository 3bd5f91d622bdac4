use Rattle.std.proofs.Common.{◌+◌, List, ap, arith, length, ℕ}
use Rattle.faultsim_c.{specs.Circuits.fan_in, proofs.CircuitRows.{pins_within, row_long}}
use Rattle.faultsim_c.proofs.circuit.pin_count.Goals as goal

pub overflow_add-count : goal.overflow_add-count
overflow_add-count c =
    let circuit = c.args.circuit.now in
    let signal = c.loop-signal.signal in
    let long = row_long (fan_in circuit) signal in
    let few = pins_within circuit (signal + 1) c.signals-signal-end.ensures.circuit in
    let own = ap (λ (xs : List ℕ). length xs) c.fan_in.ensures in
    let before = c.loop-signal.invariant in
    omega (arith, long, few, own, before)
