-- The representative of a class of a job, and the entries of a list of its classes.
use Rattle.std.specs.Prelude.{◌<◌, ℕ, length}
use Rattle.bench_net.specs.Scan.{names}
use Rattle.flat_circuit.specs.declared.origin.ListedClass.{ListedClass}
use Rattle.flat_circuit.specs.declared.words.Stuck.{Stuck}
use Rattle.block_sim.specs.Parts.{Parts}
use Rattle.flat_circuit.specs.Regions.{IsStemOfClass}
use Rattle.flat_circuit.specs.Origins.{IsRepresentativeIn}

-- the stuck-at fault belongs to the representative of a class of a job
abbrev pub IsRepresentativeOf : Parts → ℕ → Stuck → Type 0
IsRepresentativeOf job class stuck = IsRepresentativeIn job.list.model job.circuit class stuck

-- a class of the job, with the stem of its region and its representative
pub record IsListed (job : Parts) (row : ListedClass) : Type 0 where
  pub within : row.class < length job.classes.representative
  pub stem : IsStemOfClass job.list.model job.circuit row.class row.stem
  pub named : row.stem < length (names job.circuit)
  pub stands : IsRepresentativeOf job row.class row.representative
