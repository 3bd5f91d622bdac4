use Rattle.std.proofs.Common.{refl, arith}
use Rattle.part_files.proofs.JoinedParts.{names_all, names_end, names_more}
use Rattle.part_files.proofs.joining.check_names.Goals as goal

pub loop-place-preserved : goal.loop-place-preserved
loop-place-preserved c = names_more _ _ _ _ (omega arith) (omega arith) c.loop-place.invariant
    (c.if-not-is_same.ensures.yes refl)

pub returns-then-faults-others-clause-same : goal.returns-then-faults-others-clause-same
returns-then-faults-others-clause-same c = names_all _ _ _ (omega (arith, c.if-faults-others.true))
    (omega arith) c.loop-place.invariant

pub returns-else-faults-others-clause-refused : goal.returns-else-faults-others-clause-refused
returns-else-faults-others-clause-refused c = (
  c.min-both.result,
  refl,
  names_end _ _ _ _ (omega arith) c.loop-place.invariant (omega arith) (omega arith),
)
