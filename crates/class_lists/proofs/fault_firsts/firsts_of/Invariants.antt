use Rattle.std.proofs.Common.{◌≡◌, None, get_or, map, take, vec_len}
use Rattle.class_lists.proofs.fault_firsts.firsts_of.Given as goal

abbrev pub invariant-loop-fault : goal.invariant-loop-fault
invariant-loop-fault l = record {
  count : vec_len l.firsts ≡ l.fault;
  each : l.firsts.items ≡ map (λ class. get_or l.found class None)
      (take l.fault l.job.classes.class_of);
}
