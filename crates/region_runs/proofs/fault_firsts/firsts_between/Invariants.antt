use Rattle.std.proofs.Common.{◌≡◌, ◌+◌, ◌++◌, length, map, take}
use Rattle.region_runs.specs.FaultFirsts.{first_at}
use Rattle.region_runs.proofs.fault_firsts.firsts_between.Given as goal

abbrev pub invariant-loop-fault : goal.invariant-loop-fault
invariant-loop-fault l = record {
  count : l.start + length l.found.items ≡ l.fault;
  follow : map (first_at l.positions l.firsts) (take l.start l.job.classes.class_of)
      ++ l.found.items ≡ map (first_at l.positions l.firsts) (take l.fault l.job.classes.class_of);
}
