-- Units: gates, lane by lane, on the words of a wide word's slots, with some of their pins
-- complemented.
use Rattle.std.specs.Prelude.{◌≡◌, ◌↔◌, ◌<◌, ◌≤◌, ◌+◌, ◌*◌, ℕ, ◌==◌, ◌&&◌, Bool, true, List}
use Rattle.std.specs.Prelude.{Option, Some, None, length, map, slice_get, slice_index_or}
use Rattle.std.specs.Prelude.{vec_capacity}
use Rattle.bench_net.specs.Statement.{Statement}
use Rattle.bench_net.specs.Scan.{names}
use Rattle.std.specs.Bool.{Decides}
use Rattle.fault_model.specs.Fault.{Fault}
use Rattle.fault_model.specs.Solution.{Detects, Test}
use Rattle.fault_model.specs.Collapse.{representatives}
use Rattle.fault_model.specs.Detection.{DetectsAt}
use Rattle.patterns.specs.Least.{below}
use Rattle.wide_words.specs.Lanes.{Layout, lane_in, slot_of}
use Rattle.wide_words.specs.Layouts.{both_layout, one_of}
use Rattle.wide_words.specs.Wide.{number}
use Rattle.wide_words.specs.declared.wide.Wide.{Wide}
use Rattle.flat_circuit.specs.declared.block_span.BlockSpan.{BlockSpan}
use Rattle.region_sim.specs.declared.unit_gate.Turned.{Turned}
use Rattle.region_sim.specs.declared.unit_gate.Turned.TheVariants.{Signal, Pin}
use Rattle.region_sim.specs.declared.unit_region.UnitRegion.{UnitRegion}
use Rattle.region_sim.specs.declared.unit_start.WideReach.{WideReach}
use Rattle.region_sim.specs.declared.unit_approach.UnitApproach.{UnitApproach}
use Rattle.region_sim.specs.declared.unit_approach.UnitApproach.TheVariants.{Known, AtStem}
use Rattle.region_sim.specs.declared.unit_approach.UnitView.{UnitView}
use Rattle.region_sim.specs.declared.unit_start.WideReach.TheVariants.{Observed, Stem}
use Rattle.flat_circuit.specs.GateForms.{inverted_if}
use Rattle.flat_circuit.specs.Arranged.{IsArranged}
use Rattle.region_sim.specs.Pack.{AreRows, HaveCounts}
use Rattle.block_sim.specs.Parts.{BelongTogether, Parts}
use Rattle.block_sim.specs.Flips.{DetectsFlip}
use Rattle.flat_circuit.specs.Words.{lane, test_of}
use Rattle.flat_circuit.specs.SlotWords.{copied_bit}

-- whether a pin of a gate, by its place and the signal that it reads, is complemented
abbrev pub is_turned : Turned → ℕ → ℕ → Bool
is_turned (Signal s) place read = read == s
is_turned (Pin pin) place read = place == pin

-- the bit that the gate sees at a place in a lane: that of the signal, complemented in these lanes
-- if the pin is
abbrev pub turned_bit : Layout → (ℕ → List ℕ) → Turned → ℕ → List ℕ → ℕ → ℕ → Bool
turned_bit layout good turned lanes pins k place =
    inverted_if (is_turned turned place (slice_index_or pins place 0) && lane lanes k)
    (copied_bit layout good k (slice_index_or pins place 0))

-- these bits, pin by pin
abbrev pub turned_bits : Layout → (ℕ → List ℕ) → Turned → ℕ → List ℕ → ℕ → List Bool
turned_bits layout good turned lanes pins k =
    map (turned_bit layout good turned lanes pins k) (below (length pins))

-- the test of a lane of a wide word, each of whose slots has the tests of a group
abbrev pub lane_test : List Test → Layout → (ℕ → ℕ) → ℕ → Test
lane_test tests layout group k = test_of tests (group (slot_of layout k)) (lane_in layout k)

-- In each lane: the test detects the complemented signal exactly if the word has a 1 and the test
-- detects the complemented stem.
abbrev pub CarryFlip : List Statement → List Test → Layout → (ℕ → ℕ) → ℕ → ℕ → ℕ → Type 0
CarryFlip c tests layout group s stem word = (k : ℕ) → k < 512
    → DetectsFlip c (lane_test tests layout group k) s
    ↔ ((lane word k ≡ true) × DetectsFlip c (lane_test tests layout group k) stem)

-- each known word is the word of its signal, and the word of the stem is known
pub record AreKnownInUnit (c : List Statement) (layout : Layout) (good : ℕ → List ℕ) (stem : ℕ)
    (known : List (Option Wide)) :
    Type 0 where
  pub room : length (names c) ≤ length known
  pub begun : (word : Wide) × (slice_index_or known stem None ≡ Some word)
  pub each : (s : ℕ) (word : Wide) → slice_index_or known s None ≡ Some word
      → (tests : List Test) (group : ℕ → ℕ) → AreRows c tests layout group good
      → CarryFlip c tests layout group s stem (number word)

-- the words of a region are known in this sense, and there is room for each way to the stem
pub record IsUnitRegion (c : List Statement) (layout : Layout) (good : ℕ → List ℕ)
    (region : UnitRegion) : Type 0 where
  pub known : AreKnownInUnit c layout good region.stem region.known
  pub path : length (names c) ≤ vec_capacity region.path

-- there is room for the regions of a circuit of this many signals
pub record HasUnitRoom (signals : ℕ) (region : UnitRegion) : Type 0 where
  pub known : signals ≤ length region.known
  pub path : signals ≤ vec_capacity region.path

-- it is the same region, with as much room
pub record IsSameUnitRegion (before after : UnitRegion) : Type 0 where
  pub stem : after.stem ≡ before.stem
  pub known : length after.known ≡ length before.known
  pub path : vec_capacity after.path ≡ vec_capacity before.path

-- In the lanes of a mask a fault has reached a signal: a test detects the fault exactly if the word
-- has a 1 and the test detects the complemented signal.
abbrev pub HaveCome : List Statement → List Test → Layout → (ℕ → ℕ) → Fault → ℕ → ℕ → ℕ → Type 0
HaveCome c tests layout group f mask s word = (k : ℕ) → k < 512 → lane mask k ≡ true
    → Detects c (lane_test tests layout group k) f
    ↔ ((lane word k ≡ true) × DetectsFlip c (lane_test tests layout group k) s)

-- The end of following a fault: an observer, with the lanes in which the fault is detected there;
-- or a signal, with the lanes in which the fault has reached it.
abbrev pub IsWideReached : List Statement → List Test → Layout → (ℕ → ℕ) → Fault → ℕ → WideReach
    → Type 0
IsWideReached c tests layout group f mask (Observed word) = (k : ℕ) → k < 512
    → Decides (lane (number word) k) ((lane mask k ≡ true)
    × Detects c (lane_test tests layout group k) f)
IsWideReached c tests layout group f mask (Stem at) =
    HaveCome c tests layout group f mask at.signal (number at.lanes)

-- ---- the units of a job
-- for each slot of a unit that begins with a group, its group
abbrev pub group_in : ℕ → ℕ → ℕ
group_in group slot = group + slot

-- the words of each slot of a unit
abbrev pub unit_rows : UnitView → ℕ → List ℕ
unit_rows view slot =
    one_of view.words.first.now view.words.second.now view.words.third.now view.words.fourth.now
    slot

-- the circuit in the form that a job's simulation reads, with the words of a group and of the three
-- groups that come after it
pub record IsUnitViewOf (job : Parts) (group : ℕ) (view : UnitView) : Type 0 where
  pub part : view.circuit.now.statements ≡ job.circuit
  pub arranged : IsArranged job.circuit view.circuit.now.arranged
  pub together : BelongTogether job
  pub count : HaveCounts view.circuit.now.arranged both_layout (unit_rows view)
  pub fault_free : AreRows view.circuit.now.arranged job.tests.tests both_layout (group_in group)
      (unit_rows view)

-- in each lane of a unit: the word has a 1 exactly if the test detects the class
abbrev pub TellsUnit : Parts → ℕ → ℕ → ℕ → Type 0
TellsUnit job group class word = (r : Fault)
    × (slice_get (representatives job.list.model job.circuit) class ≡ Some r)
    × ((k : ℕ) → k < 512
    → Decides (lane word k) (DetectsAt job.circuit job.tests.tests r (128 * group + k)))

-- in each lane of a unit: the test detects the class exactly if the word has a 1 and the test
-- detects the complemented stem
abbrev pub ArrivesInUnit : Parts → ℕ → ℕ → ℕ → ℕ → Type 0
ArrivesInUnit job group stem class word = (r : Fault)
    × (slice_get (representatives job.list.model job.circuit) class ≡ Some r)
    × ((k : ℕ) → k < 512 → DetectsAt job.circuit job.tests.tests r (128 * group + k)
    ↔ ((lane word k ≡ true) × DetectsFlip job.circuit (test_of job.tests.tests group k) stem))

-- a class was followed on a unit: the lanes that detect it are known, or it reached the stem
abbrev pub IsUnitApproach : Parts → ℕ → ℕ → ℕ → UnitApproach → Type 0
IsUnitApproach job group stem class (Known word) = TellsUnit job group class (number word)
IsUnitApproach job group stem class (AtStem word) =
    ArrivesInUnit job group stem class (number word)

-- the blocks of a unit that begins with a group
abbrev pub unit_span : ℕ → BlockSpan
unit_span group = record { first = 2 * group; last = 2 * group + 7 }
