use Rattle.flat_circuit.specs.Stuck.{stuck_fault}
use Rattle.blocking_pins.proofs.Entered.{entered_all, entered_more, entered_none}
use Rattle.blocking_pins.proofs.blocked.entered.Goals as goal

pub loop-pin-init : goal.loop-pin-init
loop-pin-init c = λ k lt. entered_none (stuck_fault c.args.gate.fault) c.args.gate.good.now
    c.args.gate.delta.now c.args.gate.place c.args.pins.now k

pub loop-pin-preserved : goal.loop-pin-preserved
loop-pin-preserved c = λ k lt. entered_more (stuck_fault c.args.gate.fault) c.args.gate.good.now
    c.args.gate.delta.now c.args.gate.place c.args.pins.now k c.loop-pin.pin c.loop-pin.entered
    c.seen.result c.loop-pin-test.true (c.seen.ensures k lt) (c.loop-pin.invariant k lt)

pub returns : goal.returns
returns c = λ k lt. entered_all (stuck_fault c.args.gate.fault) c.args.gate.good.now
    c.args.gate.delta.now c.args.gate.place c.args.pins.now k c.loop-pin.entered c.loop-pin.pin
    c.loop-pin-test.false (c.loop-pin.invariant k lt)
