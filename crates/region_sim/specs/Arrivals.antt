-- Classes that were followed by themselves to the stems of their regions.
use Rattle.std.specs.Prelude.{◌≡◌, ℕ, ◌+◌, ◌*◌, ◌<◌, List, Contains, Some, length, slice_get}
use Rattle.std.specs.Prelude.{bit_and}
use Rattle.std.specs.Bool.{Decides}
use Rattle.bench_net.specs.Scan.{names}
use Rattle.fault_model.specs.Fault.{Fault}
use Rattle.fault_model.specs.Collapse.{representatives}
use Rattle.fault_model.specs.Detection.{DetectsAt}
use Rattle.region_sim.specs.declared.region.Approach.{Approach}
use Rattle.region_sim.specs.declared.region.Approach.TheVariants.{Known, Stem}
use Rattle.block_sim.specs.declared.propagation.Followed.{Followed}
use Rattle.flat_circuit.specs.declared.block_span.BlockSpan.{BlockSpan}
use Rattle.block_sim.specs.Parts.{Parts}
use Rattle.block_sim.specs.Flips.{AreLanesFor, HasCome}
use Rattle.flat_circuit.specs.BlockSpans.{IsInSpan, group_of}
use Rattle.flat_circuit.specs.Words.{lane}

-- the lanes of a word that are 1 are those whose test is one of the span and detects the
-- representative of the class
abbrev pub AreSpanLanes : Parts → BlockSpan → ℕ → ℕ → Type 0
AreSpanLanes job span class word =
    (r : Fault) × (slice_get (representatives job.list.model job.circuit) class ≡ Some r)
    × ((k : ℕ) → k < 128 → Decides (lane word k)
    (IsInSpan (length job.tests.tests) span (128 * group_of span + k)
    × DetectsAt job.circuit job.tests.tests r (128 * group_of span + k)))

-- In these lanes of a span a class reached a signal: in each of them the span's test meets the
-- condition of the representative on the test before, and the representative reached the signal.
abbrev pub HasArrived : Parts → BlockSpan → ℕ → ℕ → ℕ → Type 0
HasArrived job span signal class word =
    (r : Fault) × (lanes arrived : ℕ)
    × (slice_get (representatives job.list.model job.circuit) class ≡ Some r)
    × AreLanesFor job.tests.tests span job.circuit r lanes
    × HasCome job.circuit job.tests.tests (group_of span) r lanes signal arrived
    × (word ≡ bit_and lanes arrived)

-- all that are followed on a span are classes of the job that reached one signal
abbrev pub AreFollowed : Parts → BlockSpan → ℕ → List Followed → Type 0
AreFollowed job span signal followed = (one : Followed) → Contains followed one
    → (one.class < length job.classes.representative)
    × HasArrived job span signal one.class one.lanes

-- a class was followed by itself: the lanes of the span that detect it are known, or it reached a
-- signal
abbrev pub IsApproach : Parts → ℕ → BlockSpan → Approach → Type 0
IsApproach job class span (Known word) = AreSpanLanes job span class word
IsApproach job class span (Stem at) =
    (at.signal < length (names job.circuit)) × HasArrived job span at.signal class at.lanes
