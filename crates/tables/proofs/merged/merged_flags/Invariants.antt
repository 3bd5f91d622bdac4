use Rattle.std.{proofs.Common.{◌≡◌, map, take}, specs.Prelude.is_some}
use Rattle.part_files.specs.Merging.{run_of}
use Rattle.tables.proofs.merged.merged_flags.Given as goal

-- the flags of the faults so far
abbrev pub invariant-loop-fault : goal.invariant-loop-fault
invariant-loop-fault l = l.flags.items ≡ map is_some (take l.fault (run_of l.merged).firsts)
