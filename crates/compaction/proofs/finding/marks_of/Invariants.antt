use Rattle.std.proofs.Common.{◌≡◌, ◌<◌, ℕ, Bool, List, false, get_or, length, take}
use Rattle.std.specs.Prelude.{Option}
use Rattle.compaction.specs.Compaction.{finds}
use Rattle.compaction.proofs.finding.marks_of.Given as goal

-- the marks of the first tests of the faults so far
pub record AreMarksOf (tests : ℕ) (firsts : List (Option ℕ)) (marks : List Bool) : Type 0 where
  pub count : length marks ≡ tests
  pub each : (t : ℕ) → t < tests → get_or marks t false ≡ finds firsts t

abbrev pub invariant-loop-fault : goal.invariant-loop-fault
invariant-loop-fault l = AreMarksOf l.tests (take l.fault l.verdicts.firsts) l.marks.items
