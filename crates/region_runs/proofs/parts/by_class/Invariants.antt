use Rattle.region_runs.specs.Part.{AreClassVerdicts}
use Rattle.region_runs.proofs.parts.by_class.Given as goal

abbrev pub invariant-loop-place : goal.invariant-loop-place
invariant-loop-place l = AreClassVerdicts l.count l.classes l.firsts l.place l.verdicts.items
