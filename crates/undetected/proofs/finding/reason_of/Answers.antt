use Rattle.std.proofs.Common.{◌∙◌, subst, sym}
use Rattle.undetected.{specs.Reasons.IsLineIn, proofs.LinesInCircuit.listed_in}
use Rattle.undetected.proofs.finding.reason_of.Goals as goal

pub has_path-requires-clause-line : goal.has_path-requires-clause-line
has_path-requires-clause-line c = subst (λ x. IsLineIn x c.line_of.result)
    (sym (c.circuit.ensures.part ∙ c.job-job.ensures.circuit))
    (listed_in c.args.run.now.whole c.faults.result.now c.args.fault c.line_of.result
    (c.faults.ensures.part ∙ c.job-job.ensures.list) c.tests-tests.ensures.together
    c.line_of.ensures c.requires.fault)
