-- The simulation of lists of the classes of a job.
use Rattle.std.specs.Prelude.{◌≡◌, ◌<◌, ℕ, All, List, Some, length, slice_get}
use Rattle.fault_model.specs.Collapse.{IsClassOf}
use Rattle.fault_model.specs.Fault.{Fault}
use Rattle.block_sim.specs.Parts.{Parts}
use Rattle.region_sim.specs.RegionHits.{RegionsSimulated, ServesRegions}
use Rattle.n_detect.specs.Detections.{IsCount}

-- the simulation as contracts see it: that of the regions, and the rank of each class
pub record ListsSimulated : Type 0 where
  pub regions : RegionsSimulated
  pub ranks : List ℕ

-- it has room for the signals of the job, and a rank for each class
pub record ServesClasses (lists : ListsSimulated) (job : Parts) : Type 0 where
  pub room : ServesRegions lists.regions job 0
  pub count : length lists.ranks ≡ length job.classes.representative
  pub below : All (λ rank. rank < length job.classes.representative) lists.ranks

-- for each class of a list the number of tests that detect its faults, counted up to `most`
pub record AreClassCounts (parts : Parts) (classes : List ℕ) (most : ℕ) (counts : List ℕ) :
    Type 0 where
  pub count : length counts ≡ length classes
  pub each : (k class n : ℕ) (f : Fault) → slice_get classes k ≡ Some class
      → IsClassOf parts.list.model parts.circuit f class
      → slice_get counts k ≡ Some n → IsCount parts.circuit parts.tests.tests most f n
