use Rattle.std.proofs.Common.{take}
use Rattle.block_coverage.specs.{Blocks.fault_names, Tallies.IsTally}
use Rattle.block_coverage.proofs.rows.listed_rows.Given as goal

-- the faults so far are counted
abbrev pub invariant-loop-fault : goal.invariant-loop-fault
invariant-loop-fault l = IsTally l.separator (take l.fault (fault_names l.circuit l.list.list))
    (take l.fault l.detected) l.tally
