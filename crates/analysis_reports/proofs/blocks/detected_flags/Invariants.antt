use Rattle.std.{proofs.Common.{◌≡◌, map, take}, specs.Prelude.is_some}
use Rattle.analysis_reports.proofs.blocks.detected_flags.Given as goal

-- the flags of the faults so far
abbrev pub invariant-loop-fault : goal.invariant-loop-fault
invariant-loop-fault l = l.flags.items ≡ map is_some (take l.fault l.verdicts.firsts)
