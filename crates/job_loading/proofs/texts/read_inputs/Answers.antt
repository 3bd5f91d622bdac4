use Rattle.std.proofs.Common.{◌∙◌, sym}
use Rattle.job_loading.proofs.texts.read_inputs.Goals as goal

pub returns-clause-tests : goal.returns-clause-tests
returns-clause-tests c = rw (sym c.sources.ensures.count) c.in_ok-tests.ensures.tests

pub returns-clause-fit : goal.returns-clause-fit
returns-clause-fit c = record {
  circuit = c.in_ok-circuit.ensures.circuit;
  tests = c.in_ok-tests.ensures.list;
  width = c.in_ok-tests.ensures.tests.1 ∙ c.sources.ensures.count;
}
