-- The parts of the classes, and the verdicts of a run over a part on each fault.
use Rattle.std.specs.Prelude.{◌≡◌, ◌≢◌, ◌⊎◌, ◌<◌, ℕ, ◌%◌, ◌*◌, max, List, length, take}
use Rattle.std.specs.Prelude.{drop}
use Rattle.std.specs.Prelude.{slice_get, Option, Some, None, min, nat_lt}
use Rattle.std.specs.Prelude.{if◌then◌else◌}
use Rattle.std.specs.Int.{div_ceil}
use Rattle.fault_model.specs.Fault.{Fault, faults}
use Rattle.block_sim.specs.First.{IsFirst}
use Rattle.block_sim.specs.Parts.{Parts}
use Rattle.flat_circuit.specs.Regions.{IsStemOfClass}
use Rattle.region_sim.specs.ClassOrder.{AreByRegion}
use Rattle.region_runs.specs.declared.parts.PartVerdict.{PartVerdict}
use Rattle.region_runs.specs.declared.parts.PartVerdict.TheVariants.{First, OtherPart}

-- the class is in this part, for this number of parts: the number of its region's stem modulo the
-- number of parts is the part
abbrev pub IsOfPart : Parts → ℕ → ℕ → ℕ → Type 0
IsOfPart job parts part class = (stem : ℕ)
    × IsStemOfClass job.list.model job.circuit class stem × (part ≡ stem % parts)

-- each class is in exactly one part
abbrev pub IsInOnePart : Parts → ℕ → ℕ → Type 0
IsInOnePart job parts class = (part : ℕ) × (part < parts) × IsOfPart job parts part class
    × ((other : ℕ) → IsOfPart job parts other class → other ≡ part)

-- the classes of a part, for this number of parts
abbrev pub ArePartOf : Parts → ℕ → ℕ → List ℕ → Type 0
ArePartOf job parts part classes = AreByRegion job (IsOfPart job parts part) classes

-- The number of classes of a stretch, if `count` classes are cut into stretches of one size, as
-- small as possible. The last stretches have fewer, or none.
abbrev pub stretch_size : ℕ → ℕ → ℕ
stretch_size count stretches = div_ceil count stretches

-- The number of stretches in which workers run classes. One worker runs one stretch. Several run
-- 24 for each of up to 64 workers, but no more than there are classes and at least one.
abbrev pub stretches_for : ℕ → ℕ → ℕ
stretches_for classes workers =
    if nat_lt workers 2 then 1 else max (min (24 * min workers 64) classes) 1

-- the number of stretches in which workers run a job: the requested one, at least 1, or else one
-- that suits the workers
abbrev pub stretches_of : Option ℕ → Parts → ℕ → ℕ
stretches_of None job workers = stretches_for (length job.classes.representative) workers
stretches_of (Some count) job workers = max count 1

-- the classes of a stretch, counted from 0, of a list that is cut into stretches of this size
abbrev pub stretch_at : ℕ → List ℕ → ℕ → List ℕ
stretch_at size classes k = take size (drop (k * size) classes)

-- the number of stretches of this size that have a class, the first ones
abbrev pub stretch_count : ℕ → List ℕ → ℕ
stretch_count size classes = div_ceil (length classes) (max size 1)

-- The verdict on a class by the first tests of the classes of a list, up to some place: the class's
-- first test, or another part if the class is not in the list.
abbrev pub IsClassVerdict : List ℕ → List (Option ℕ) → ℕ → ℕ → Option PartVerdict → Type 0
IsClassVerdict classes firsts n class verdict =
    ((k : ℕ) × (first : Option ℕ) × (k < n) × (slice_get classes k ≡ Some class)
    × (slice_get firsts k ≡ Some first) × (verdict ≡ Some (First first)))
    ⊎ (((k : ℕ) → k < n → slice_get classes k ≢ Some class) × (verdict ≡ Some OtherPart))

-- the verdicts on the first `count` classes
pub record AreClassVerdicts (count : ℕ) (classes : List ℕ) (firsts : List (Option ℕ)) (n : ℕ)
    (verdicts : List PartVerdict) : Type 0 where
  pub long : length verdicts ≡ count
  pub each : (class : ℕ) → class < count
      → IsClassVerdict classes firsts n class (slice_get verdicts class)

-- the verdict on a fault of a class: its first test if the class is in the part
abbrev pub IsPartVerdict : Parts → ℕ → ℕ → ℕ → Fault → PartVerdict → Type 0
IsPartVerdict job parts part class f (First first) =
    IsOfPart job parts part class × IsFirst job.circuit job.tests.tests f first
IsPartVerdict job parts part class f OtherPart = ¬ IsOfPart job parts part class

-- The verdicts of a run over a part on all faults of the uncollapsed list. A fault of one of its
-- classes has the first test that detects it, or none if no test does. Each other fault is in
-- another part.
pub record ArePartVerdicts (job : Parts) (parts part : ℕ)
    (verdicts : List PartVerdict) : Type 0 where
  pub count : length verdicts ≡ length (faults job.list.model job.circuit)
  pub each : (i class : ℕ) (f : Fault) (verdict : PartVerdict)
      → slice_get (faults job.list.model job.circuit) i ≡ Some f
      → slice_get job.classes.class_of i ≡ Some class
      → slice_get verdicts i ≡ Some verdict
      → IsPartVerdict job parts part class f verdict
