use Rattle.std.proofs.Common.{◌∷◌, map, take}
use Rattle.input_check.specs.Objects.{AreErrorsOf, error_of}
use Rattle.input_check.proofs.errors.error_rows.Given as goal

-- the rows are those of the errors so far
abbrev pub invariant-loop-finding : goal.invariant-loop-finding
invariant-loop-finding l = AreErrorsOf l.file
    (l.findings.first ∷ take l.finding-index l.findings.others.items) (map error_of l.rows.items)
