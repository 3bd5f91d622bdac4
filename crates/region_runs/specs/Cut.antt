-- Classes that are cut into stretches.
use Rattle.std.specs.Prelude.{◌≡◌, ◌<◌, ◌≤◌, ℕ, List, All, length}
use Rattle.patterns.specs.Tests.{blocks}
use Rattle.block_sim.specs.Parts.{Parts}
use Rattle.region_runs.specs.Part.{stretch_size}

-- classes of the job, to be cut into this number of stretches of this size, and a block with which
-- their run may begin
pub record IsCutOf (job : Parts) (from stretches size : ℕ) (classes : List ℕ) : Type 0 where
  pub from_within : from ≤ blocks (length job.tests.tests)
  pub some : 0 < stretches
  pub size_is : size ≡ stretch_size (length classes) stretches
  pub few : length classes ≤ length job.classes.representative
  pub within : All (λ class. class < length job.classes.representative) classes
