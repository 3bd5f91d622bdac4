use Rattle.std.specs.Prelude.{Some, slice_index_or}
use Rattle.fault_model.specs.{declared.Line.TheVariants.Pin, Solution.under}
use Rattle.flat_circuit.specs.{Stuck.stuck_fault, Words.{lane, word_over}}
use Rattle.blocking_pins.proofs.SteadyLanes.{steady_lanes}
use Rattle.blocking_pins.proofs.blocked.steady.Goals as goal

pub returns : goal.returns
returns c = λ k lt.
    steady_lanes c.args.lanes (slice_index_or c.args.gate.good.now c.args.read 0) c.seen.result
    c.in_each_lane-other.result k c.args.value
    (under (Some (stuck_fault c.args.gate.fault)) (Pin c.args.gate.place c.args.pin)
    (lane (word_over c.args.gate.good.now c.args.gate.delta.now c.args.read) k))
    (c.in_each_lane-other.ensures k lt) (c.seen.ensures k lt)
