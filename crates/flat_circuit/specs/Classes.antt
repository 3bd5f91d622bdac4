-- The lists that a job has of the classes of a circuit.
use Rattle.std.specs.Prelude.{◌≡◌, ◌<◌, All, List, length}
use Rattle.bench_net.specs.Statement.{Statement}
use Rattle.fault_model.specs.Fault.{fault_list}
use Rattle.fault_model.specs.Collapse.{AreClassesOf}
use Rattle.flat_circuit.specs.declared.class_lists.ClassLists.{ClassLists}
use Rattle.flat_circuit.specs.Origins.{HaveRepresentatives}
use Rattle.flat_circuit.specs.Regions.{HaveStems}

-- the faults and classes of the circuit; each class has its stem, a next class, and its
-- representative
pub record AreClassLists (c : List Statement) (lists : ClassLists) : Type 0 where
  pub list : lists.faults ≡ fault_list lists.faults.model c
  pub classes : AreClassesOf lists.faults.model c lists.classes
  pub stem_count : length lists.stems.items ≡ length lists.classes.representative
  pub stems : HaveStems lists.faults.model c lists.stems.items
  pub nexts : length lists.next_in_region.items ≡ length lists.classes.representative
  pub next_within : All (λ class. class < length lists.classes.representative)
      lists.next_in_region.items
  pub stuck_count : length lists.representatives.items ≡ length lists.classes.representative
  pub stucks_are : HaveRepresentatives lists.faults.model c lists.representatives.items
