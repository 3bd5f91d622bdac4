-- What a gate was asked by a worker that goes over a list, block after block.
use Rattle.std.specs.Prelude.{◌≡◌, ◌<◌, ◌≤◌, ℕ, Bool, List, Some, None, slice_get}
use Rattle.flat_circuit.specs.declared.origin.ListedClass.{ListedClass}
use Rattle.flat_circuit.specs.declared.block_span.BlockSpan.{BlockSpan}
use Rattle.block_sim.specs.Parts.{Parts}
use Rattle.region_sim.specs.RegionHits.{IsOpenAt}
use Rattle.block_sim.specs.First.{IsFirstOn}
use Rattle.workers.specs.Stops.{Stops}

-- the gate surely stops the worker on a block at none of the open classes before a place
abbrev pub AreNotStopped : {K : Type 0} → (K → Bool) → List ListedClass → List K → ℕ → Stops → ℕ → ℕ
    → Type 0
AreNotStopped wants rows kept worker stops block place = (k : ℕ) (row : ListedClass) → k < place
    → IsOpenAt wants rows kept k row → stops.must worker row.class block → ⊥

-- the gate may stop the worker on a block at the open class at a place
abbrev pub IsStoppedAt : {K : Type 0} → (K → Bool) → List ListedClass → List K → ℕ → Stops → ℕ → ℕ
    → Type 0
IsStoppedAt wants rows kept worker stops block place = (row : ListedClass)
    × IsOpenAt wants rows kept place row × stops.may worker row.class block

-- and at none of all classes before a place
abbrev pub AreAllNotStopped : List ListedClass → ℕ → Stops → ℕ → ℕ → Type 0
AreAllNotStopped rows worker stops block place = (k : ℕ) (row : ListedClass) → k < place
    → slice_get rows k ≡ Some row → stops.must worker row.class block → ⊥

-- no test of any blocks detects the classes at the places from one on
abbrev pub AreDeadFrom : Parts → List ListedClass → ℕ → Type 0
AreDeadFrom job rows from = (k : ℕ) (row : ListedClass) → from ≤ k → slice_get rows k ≡ Some row
    → (span : BlockSpan) → IsFirstOn job span row.class None
