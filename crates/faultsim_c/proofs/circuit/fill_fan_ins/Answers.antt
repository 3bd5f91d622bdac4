use Rattle.std.proofs.Common.{◌+◌, List, ap, arith, length, ℕ}
use Rattle.bench_net.specs.Scan.{names}
use Rattle.faultsim_c.specs.Circuits.{fan_in}
use Rattle.faultsim_c.proofs.CircuitRows.{pins_within, row_long, rows_within}
use Rattle.faultsim_c.proofs.circuit.fill_fan_ins.Goals as goal

pub overflow_cast-starts : goal.overflow_cast-starts
overflow_cast-starts c =
    let few = pins_within c.args.circuit.now c.loop-signal.signal
    c.signals-signal-end.ensures.circuit in
    let place = c.loop-signal.invariant.place in
    omega (arith, few, place)

pub put_row-place-requires : goal.put_row-place-requires
put_row-place-requires c =
    let circuit = c.args.circuit.now in
    let signal = c.loop-signal.signal in
    let before = c.loop-signal.invariant in
    let low = c.loop-signal-test.true in
    let end = c.signals-signal-end.ensures.count in
    let long = row_long (fan_in circuit) signal in
    let within = rows_within (fan_in circuit) (signal + 1) (length (names circuit))
    (omega (arith, low, end)) in
    let own = ap (λ (xs : List ℕ). length xs) c.fan_in.ensures in
    let place = before.place in
    let same = before.long in
    let room = c.requires.pins in
    omega (arith, long, within, own, place, same, room)

pub overflow_cast-starts-2 : goal.overflow_cast-starts-2
overflow_cast-starts-2 c =
    let few = pins_within c.args.circuit.now c.loop-signal.signal
    c.signals-signal-end.ensures.circuit in
    let place = c.loop-signal.invariant.place in
    omega (arith, few, place)
