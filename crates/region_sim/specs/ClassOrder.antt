-- The classes of a job, region by region.
use Rattle.std.specs.Prelude.{◌≡◌, ◌⊎◌, ◌<◌, ◌≤◌, ⊤, ℕ, List, All, length, slice_get, slice_index}
use Rattle.std.specs.Prelude.{Some, map, slice_index_or}
use Rattle.bench_net.specs.Scan.{names}
use Rattle.block_sim.specs.Parts.{Parts}
use Rattle.flat_circuit.specs.Regions.{IsStemOfClass}
use Rattle.flat_circuit.specs.declared.origin.ListedClass.{ListedClass}
use Rattle.block_sim.specs.Listed.{IsListed}

-- one class comes before another: by the visits to the stems of their regions, then by the numbers
-- of these, and in a region by its own number
abbrev pub ComesBefore : Parts → List ℕ → ℕ → ℕ → Type 0
ComesBefore job visits first second = (r q : ℕ)
    → IsStemOfClass job.list.model job.circuit first r
    → IsStemOfClass job.list.model job.circuit second q
    → (slice_index_or visits r 0 < slice_index_or visits q 0)
    ⊎ ((slice_index_or visits r 0 ≡ slice_index_or visits q 0)
    × ((r < q) ⊎ ((r ≡ q) × (first < second))))

-- The classes of a job with a property, region by region. Each of the list has it, and each class
-- that has it is in the list. Each comes before the later ones by some visits to the stems, so it
-- stands there once, and the classes of one region are adjacent. So they are no more than the
-- job's.
pub record AreByRegion (job : Parts) (Holds : ℕ → Type 0) (classes : List ℕ) : Type 0 where
  pub visits : List ℕ
  pub each : (k class : ℕ) → slice_get classes k ≡ Some class
      → (class < length job.classes.representative) × Holds class
  pub all : (class : ℕ) → class < length job.classes.representative
      → Holds class → (k : ℕ) × (slice_get classes k ≡ Some class)
  pub ordered : (i k first second : ℕ) → i < k → slice_get classes i ≡ Some first
      → slice_get classes k ≡ Some second → ComesBefore job visits first second
  pub few : length classes ≤ length job.classes.representative

-- all classes
abbrev pub AreAllByRegion : Parts → List ℕ → Type 0
AreAllByRegion job classes = AreByRegion job (λ class. ⊤) classes

-- the first n classes, by their own numbers, with the visits to the stems of their regions
pub record AreVisitsTo (job : Parts) (places : List ℕ) (n : ℕ) (visits : List ℕ) : Type 0 where
  pub count : length visits ≡ n
  pub each : (class stem : ℕ) → class < n → IsStemOfClass job.list.model job.circuit class stem
      → (stem < length (names job.circuit))
      × (slice_index visits class ≡ slice_index places stem)

-- the visits to the regions of all classes, each below the number of signals; no two stems have the
-- same visit
pub record AreVisits (job : Parts) (visits : List ℕ) : Type 0 where
  pub places : List ℕ
  pub apart : (r q : ℕ) → r < length (names job.circuit) → q < length (names job.circuit)
      → slice_index places r ≡ slice_index places q → r ≡ q
  pub within : All (λ visit. visit < length (names job.circuit)) visits
  pub are : AreVisitsTo job places (length job.classes.representative) visits

-- the numbers of the classes of rows
abbrev pub classes_of : List ListedClass → List ℕ
classes_of rows = map (λ row. row.class) rows

-- the rows stand for the classes of a list
pub record AreRowsOf (job : Parts) (classes : List ℕ) (rows : List ListedClass) : Type 0 where
  pub same : classes_of rows ≡ classes
  pub each : All (IsListed job) rows
