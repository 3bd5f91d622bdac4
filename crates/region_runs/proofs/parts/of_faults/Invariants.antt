use Rattle.std.proofs.Common.{◌≡◌, map, take, get_or, vec_len}
use Rattle.region_runs.specs.declared.parts.PartVerdict.TheVariants.{OtherPart}
use Rattle.region_runs.proofs.parts.of_faults.Given as goal

abbrev pub invariant-loop-fault : goal.invariant-loop-fault
invariant-loop-fault l = record {
  count : vec_len l.verdicts ≡ l.fault;
  each : l.verdicts.items ≡ map (λ class. get_or l.by_class class OtherPart)
      (take l.fault l.job.classes.class_of);
}
