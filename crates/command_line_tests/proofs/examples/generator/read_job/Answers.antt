use Rattle.std.proofs.Common.{◌∙◌, ap, sym}
use Rattle.fault_model.specs.Fault.{fault_list}
use Rattle.command_line_tests.proofs.examples.generator.read_job.Goals as goal

pub new-requires : goal.new-requires
new-requires c =
    let listed = c.in_ok-faults.ensures in
    record {
      circuit = c.in_ok-circuit.ensures.circuit;
      list = listed ∙ ap (λ m. fault_list m c.in_ok-circuit.circuit)
          (sym (ap (λ l. l.model) listed));
      classes = c.in_ok-classes.ensures.classes;
      tests = c.in_ok-tests.ensures.list;
      width = c.in_ok-tests.ensures.tests.1 ∙ c.sources.ensures.count;
    }
