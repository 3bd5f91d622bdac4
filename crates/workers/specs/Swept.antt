-- The classes of a job that a run of one thread has swept over, up to some block.
use Rattle.std.specs.Prelude.{◌≡◌, ℕ, ◌*◌, ◌<◌, List, All, Option, Some, length}
use Rattle.std.specs.Prelude.{slice_get, slice_index}
use Rattle.fault_model.specs.Collapse.{representatives}
use Rattle.fault_model.specs.Fault.{Fault}
use Rattle.flat_circuit.specs.declared.origin.ListedClass.{ListedClass}
use Rattle.block_sim.specs.Listed.{IsListed}
use Rattle.block_sim.specs.Parts.{HasRoom, Parts}
use Rattle.region_sim.specs.OpenPlaces.{AreSuccessors}
use Rattle.region_sim.specs.RegionHits.{ServesRegions}
use Rattle.workers.specs.declared.swept.Swept.{Swept}
use Rattle.workers.specs.Verdict.{IsFirstBelow}

-- the first test of a class below a bound is that of its representative
abbrev pub IsSweptFirst : Parts → ℕ → ℕ → Option ℕ → Type 0
IsSweptFirst job bound class first = (r : Fault)
    × (slice_get (representatives job.list.model job.circuit) class ≡ Some r)
    × IsFirstBelow job.circuit job.tests.tests bound r first

-- at each place of a list of rows stands the first test of its class below a bound
abbrev pub AreSweptFirsts : Parts → ℕ → List ListedClass → List (Option ℕ) → Type 0
AreSweptFirsts job bound rows firsts = (k : ℕ) (row : ListedClass) (first : Option ℕ)
    → slice_get rows k ≡ Some row → slice_get firsts k ≡ Some first
    → IsSweptFirst job bound row.class first

-- the class stands at its place
abbrev pub IsPlaced : List ListedClass → List ℕ → ℕ → Type 0
IsPlaced rows places class = (row : ListedClass)
    × (slice_get rows (slice_index places class) ≡ Some row) × (row.class ≡ class)

-- it serves the job: it has room, and knows the first tests of all classes on the blocks that it
-- has swept
pub record IsSweptOf (job : Parts) (s : Swept) : Type 0 where
  pub fits : HasRoom s.workspace job
  pub serves : ServesRegions s.simulation job (length s.rows.items)
  pub listed : All (IsListed job) s.rows.items
  pub count : length s.firsts.items ≡ length s.rows.items
  pub nexts : length s.next.items ≡ length s.rows.items
  pub next : AreSuccessors s.next.items
  pub numbers : length s.places.items ≡ length job.classes.representative
  pub placed : (class : ℕ) → class < length job.classes.representative
      → IsPlaced s.rows.items s.places.items class
  pub found : AreSweptFirsts job (64 * s.blocks) s.rows.items s.firsts.items
