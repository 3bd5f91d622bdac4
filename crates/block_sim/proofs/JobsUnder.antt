-- Jobs of a circuit and of tests under a model.
use Rattle.std.proofs.Common.{◌≡◌, List, length, refl}
use Rattle.bench_net.specs.{Circuit.IsCircuit, Scan.sources, Statement.Statement}
use Rattle.fault_model.specs.declared.Model.{Model}
use Rattle.patterns.specs.Tests.{IsTestList, TestList}
use Rattle.flat_circuit.specs.{Classes.AreClassLists, declared.class_lists.ClassLists.ClassLists}
use Rattle.block_sim.specs.JobParts.{IsJobUnder}

-- a circuit, the lists of its classes, and tests of its width are the job of them under a model
pub under : (m : Model) (c : List Statement) (tests : TestList) (lists : ClassLists) → IsCircuit c
    → AreClassLists c lists → lists.faults.model ≡ m → IsTestList tests
    → tests.width ≡ length (sources c) → IsJobUnder m c tests (record {
      circuit = c;
      list = lists.faults;
      classes = lists.classes;
      tests = tests;
    })
under m c tests lists circuit are model listed width = (
  refl,
  refl,
  record {
    circuit = circuit;
    list = are.list;
    classes = are.classes;
    tests = listed;
    width = width;
  },
  model,
)
