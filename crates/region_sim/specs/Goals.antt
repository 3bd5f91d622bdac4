-- The tests that detect a class, as words tell them, and what goals keep of them.
use Rattle.std.specs.Prelude.{◌≡◌, ◌⊎◌, ◌+◌, ◌*◌, ◌<◌, ◌≤◌, ℕ, Bool, List, Option, Some, None}
use Rattle.std.specs.Prelude.{true, false, slice_get}
use Rattle.std.specs.Bool.{Decides}
use Rattle.fault_model.specs.Collapse.{representatives}
use Rattle.fault_model.specs.Detection.{DetectsAt}
use Rattle.fault_model.specs.Fault.{Fault}
use Rattle.flat_circuit.specs.declared.block_span.BlockSpan.{BlockSpan}
use Rattle.flat_circuit.specs.declared.origin.ListedClass.{ListedClass}
use Rattle.flat_circuit.specs.BlockSpans.{IsSpan, IsUnit}
use Rattle.flat_circuit.specs.Words.{lane}
use Rattle.block_sim.specs.Parts.{Parts}

-- the blocks of a span are simulated at once: they are of one group, or the eight of a unit
abbrev pub IsSweep : ℕ → BlockSpan → Type 0
IsSweep tests span = IsSpan tests span
    ⊎ (IsUnit tests span.first × (span.last ≡ span.first + 7))

-- the tests of a job that detect the representative of a class, by their numbers
abbrev pub AreHits : Parts → ℕ → (ℕ → Bool) → Type 0
AreHits job class hits = (r : Fault)
    × (slice_get (representatives job.list.model job.circuit) class ≡ Some r)
    × ((t : ℕ) → Decides (hits t) (DetectsAt job.circuit job.tests.tests r t))

-- The lanes of a word tell which of the tests from one up to another are hits. Lane 0 stands for
-- the test `first`. Each lane that is 1 is such a hit. If all lanes count, each such hit has its
-- lane; if not, each hit has its lane that has no lane below it.
pub record TellHits (all : Bool) (hits : ℕ → Bool) (first from to word : ℕ) : Type 0 where
  pub low : first ≤ from
  pub ordered : from ≤ to
  pub high : to ≤ first + 128
  pub right : (k : ℕ) → k < 128 → lane word k ≡ true
      → (from ≤ first + k) × (first + k < to) × (hits (first + k) ≡ true)
  pub whole : (k : ℕ) → from ≤ first + k → first + k < to → hits (first + k) ≡ true
      → (all ≡ true) ⊎ ((j : ℕ) → j < k → lane word j ≡ false) → lane word k ≡ true

-- A word of a group was taken: if something was kept of the tests from one up to another, which is
-- the first that the word tells of, the same is kept of them and those of the word.
abbrev pub HasTaken : {K : Type 0} → Bool → ((ℕ → Bool) → ℕ → ℕ → K → Type 0) → ℕ → ℕ → K → K
    → Type 0
HasTaken all means group word old new = (hits : ℕ → Bool) (low from to : ℕ) → low ≤ from
    → TellHits all hits (128 * group) from to word → means hits low from old → means hits low to new

-- the tests of a span more were taken of a class
abbrev pub HasTakenSpan : {K : Type 0} → ((ℕ → Bool) → ℕ → ℕ → K → Type 0) → Parts → BlockSpan
    → ℕ → K → K → Type 0
HasTakenSpan means job span class old new = (hits : ℕ → Bool) (low : ℕ) → AreHits job class hits
    → low ≤ 64 * span.first → means hits low (64 * span.first) old
    → means hits low (64 * span.last + 64) new

-- so it is with what is kept at a place
abbrev pub HasTakenAt : {K : Type 0} → ((ℕ → Bool) → ℕ → ℕ → K → Type 0) → Parts → BlockSpan
    → ListedClass → List K → List K → ℕ → Type 0
HasTakenAt {K} means job span row before after place = (old : K) × (new : K)
    × (slice_get before place ≡ Some old) × (slice_get after place ≡ Some new)
    × HasTakenSpan means job span row.class old new

-- so it is at each place from one up to another
abbrev pub HaveTaken : {K : Type 0} → ((ℕ → Bool) → ℕ → ℕ → K → Type 0) → Parts → BlockSpan
    → List ListedClass → ℕ → ℕ → List K → List K → Type 0
HaveTaken means job span rows from to before after = (place : ℕ) (row : ListedClass)
    → from ≤ place → place < to → slice_get rows place ≡ Some row
    → HasTakenAt means job span row before after place

-- ---- the first test
-- the first hit from one test on, and before another
abbrev pub IsFirstHit : (ℕ → Bool) → ℕ → ℕ → Option ℕ → Type 0
IsFirstHit hits low high (Some t) = (low ≤ t) × (t < high) × (hits t ≡ true)
    × ((earlier : ℕ) → low ≤ earlier → earlier < t → hits earlier ≡ false)
IsFirstHit hits low high None = (t : ℕ) → low ≤ t → t < high → hits t ≡ false

-- no test is known yet
abbrev pub is_unknown : Option ℕ → Bool
is_unknown None = true
is_unknown (Some t) = false
