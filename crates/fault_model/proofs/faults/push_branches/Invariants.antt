use Rattle.std.proofs.Common.{◌≡◌, ◌++◌, map, take}
use Rattle.fault_model.specs.Fault.{branch}
use Rattle.fault_model.proofs.faults.push_branches.Given as goal

abbrev pub invariant-loop-sink : goal.invariant-loop-sink
invariant-loop-sink l =
    l.lines.items ≡ l.initial.lines.items ++ map branch (take l.sink-index l.sinks)
