-- What a simulation of regions takes of the tests of a span, by the places of a list of classes.
use Rattle.std.specs.Prelude.{◌≡◌, ◌≢◌, ◌⊎◌, ℕ, ◌+◌, ◌*◌, ◌<◌, ◌≤◌, List, [], ◌∷◌, ◌++◌, Contains}
use Rattle.std.specs.Prelude.{Bool, Some, true, false, bit_and, length, slice_get}
use Rattle.std.specs.Prelude.{vec_capacity}
use Rattle.bench_net.specs.Statement.{Statement}
use Rattle.bench_net.specs.Scan.{names}
use Rattle.fault_model.specs.Reordered.{place}
use Rattle.wide_words.specs.Lanes.{Layout, lane_in, slot_of}
use Rattle.flat_circuit.specs.declared.origin.ListedClass.{ListedClass}
use Rattle.flat_circuit.specs.declared.block_span.BlockSpan.{BlockSpan}
use Rattle.block_sim.specs.declared.propagation.Followed.{Followed}
use Rattle.region_sim.specs.declared.pack.Pack.{Pack}
use Rattle.region_sim.specs.declared.pack.Slot.{Slot}
use Rattle.block_sim.specs.declared.propagation_state.PropagationState.{PropagationState}
use Rattle.region_sim.specs.declared.sensitized.Sensitized.{Sensitized}
use Rattle.region_sim.specs.declared.unit_simulation.Unit.{Unit as UnitRoom}
use Rattle.flat_circuit.specs.Readers.{IsObserved}
use Rattle.region_sim.specs.Pack.{IsPackClear, IsWithin}
use Rattle.block_sim.specs.Parts.{Parts}
use Rattle.region_sim.specs.Sensitized.{IsReady}
use Rattle.region_sim.specs.Arrivals.{AreFollowed, HasArrived}
use Rattle.flat_circuit.specs.BlockSpans.{IsInSpan, group_of}
use Rattle.region_sim.specs.Units.{HasUnitRoom}
use Rattle.flat_circuit.specs.Words.{lane}
use Rattle.region_sim.specs.Goals.{HasTaken, HasTakenAt}

-- the row at a place of a list is of a class of which something is open
pub record IsOpenAt {K : Type 0} (is_open : K → Bool) (rows : List ListedClass) (kept : List K)
    (place : ℕ) (row : ListedClass) : Type 0 where
  pub row_is : slice_get rows place ≡ Some row
  pub one : K
  pub kept_is : slice_get kept place ≡ Some one
  pub wanted : is_open one ≡ true

-- the place is that of one of those that are followed
abbrev pub IsFollowedAt : List Followed → ℕ → Type 0
IsFollowedAt followed place = (one : Followed) × Contains followed one × (one.place ≡ place)

-- for each open class from one place up to another the tests of the span were taken, or it is
-- followed and nothing was taken
abbrev pub HaveTakenBut : {K : Type 0} → (K → Bool) → ((ℕ → Bool) → ℕ → ℕ → K → Type 0) → Parts
    → BlockSpan → List ListedClass → List Followed → ℕ → ℕ → List K → List K → Type 0
HaveTakenBut is_open means job span rows followed from to before now =
    (place : ℕ) (row : ListedClass) → from ≤ place → place < to
    → IsOpenAt is_open rows before place row
    → HasTakenAt means job span row before now place
    ⊎ (IsFollowedAt followed place × (slice_get now place ≡ slice_get before place))

-- so it is for each open class from one place up to another
abbrev pub HaveTakenOpen : {K : Type 0} → (K → Bool) → ((ℕ → Bool) → ℕ → ℕ → K → Type 0) → Parts
    → BlockSpan → List ListedClass → ℕ → ℕ → List K → List K → Type 0
HaveTakenOpen is_open means job span rows from to before now =
    (place : ℕ) (row : ListedClass) → from ≤ place → place < to
    → IsOpenAt is_open rows before place row → HasTakenAt means job span row before now place

-- at the places of those that are followed stands what stood there before
abbrev pub AreStill : {K : Type 0} → List Followed → List K → List K → Type 0
AreStill followed before now = (one : Followed) → Contains followed one
    → slice_get now one.place ≡ slice_get before one.place

-- One row more is followed alone: the tests of the span were taken of its class, or it came to the
-- stem and is followed with the others.
abbrev pub IsTakenOrFollowed : {K : Type 0} → ((ℕ → Bool) → ℕ → ℕ → K → Type 0) → Parts
    → BlockSpan → ListedClass → ℕ → List Followed → List Followed → List K → List K → Type 0
IsTakenOrFollowed {K} means job span row place was followed old now =
    ((followed ≡ was) × (length now ≡ length old)
    × ((other : ℕ) → other ≢ place → slice_get now other ≡ slice_get old other)
    × HasTakenAt means job span row old now place)
    ⊎ ((now ≡ old) × (one : Followed) × (one.class ≡ row.class) × (one.place ≡ place)
    × HasArrived job span row.stem one.class one.lanes × (followed ≡ was ++ one ∷ []))

-- at a place the lanes of a word were taken
abbrev pub HasTakenWord : {K : Type 0} → Bool → ((ℕ → Bool) → ℕ → ℕ → K → Type 0) → ℕ → ℕ
    → List K → List K → ℕ → Type 0
HasTakenWord {K} all means group word before after place = (old : K) × (new : K)
    × (slice_get before place ≡ Some old) × (slice_get after place ≡ Some new)
    × HasTaken all means group word old new

-- of each followed class those of its lanes were taken in which the complemented stem is detected
abbrev pub AreConcluded : {K : Type 0} → Bool → ((ℕ → Bool) → ℕ → ℕ → K → Type 0) → BlockSpan → ℕ
    → List Followed → List K → List K → Type 0
AreConcluded all means span seen followed before after = (one : Followed) → Contains followed one
    → HasTakenWord all means (group_of span) (bit_and one.lanes seen) before after one.place

-- those that are followed stand in the order of their places, and none has the place of another
abbrev pub AreInOrder : List Followed → Type 0
AreInOrder followed = (i k : ℕ) (one other : Followed) → i < k → slice_get followed i ≡ Some one
    → slice_get followed k ≡ Some other → one.place < other.place

-- each that is followed is of the class at its place, which is one of those from one up to another
abbrev pub AreFollowedAt : List ListedClass → ℕ → ℕ → List Followed → Type 0
AreFollowedAt rows from to followed = (one : Followed) → Contains followed one
    → (from ≤ one.place) × (one.place < to)
    × (row : ListedClass) × (slice_get rows one.place ≡ Some row) × (row.class ≡ one.class)

-- the open rows from one place up to another have this stem
abbrev pub HaveStem : {K : Type 0} → (K → Bool) → List ListedClass → List K → ℕ → ℕ → ℕ → Type 0
HaveStem is_open rows kept from to stem = (place : ℕ) (row : ListedClass) → from ≤ place
    → place < to → IsOpenAt is_open rows kept place row → row.stem ≡ stem

-- The open rows from one place up to another have the stem of the first row, and behind them comes
-- an open row of another stem, or none.
pub record IsEndOfRegion {K : Type 0} (is_open : K → Bool) (rows : List ListedClass)
    (kept : List K) (from to : ℕ) : Type 0 where
  pub some : from < to
  pub within : to ≤ length rows
  pub same : (first : ListedClass) → slice_get rows from ≡ Some first
      → HaveStem is_open rows kept from to first.stem
  pub whole : (first row : ListedClass) → slice_get rows from ≡ Some first
      → slice_get rows to ≡ Some row
      → IsOpenAt is_open rows kept to row × (row.stem ≢ first.stem)

-- what contracts see of a simulation of regions: for how many signals it has room, and how many
-- classes it can follow at once
pub record RegionsSimulated : Type 0 where
  pub signals : ℕ
  pub capacity : ℕ

-- it is large enough for lists of this number of classes of the job
pub record ServesRegions (simulation : RegionsSimulated) (job : Parts) (count : ℕ) : Type 0 where
  pub room : length (names job.circuit) ≤ simulation.signals
  pub followed : count ≤ simulation.capacity

-- ---- several regions in one pack
-- more classes are followed, and each of them came to the signal
abbrev pub HasAdded : Parts → BlockSpan → ℕ → List Followed → List Followed → Type 0
HasAdded job span signal old new = (own : List Followed) × (new ≡ old ++ own)
    × AreFollowed job span signal own

-- each that is followed is of a class of which something is open
abbrev pub AreOpen : {K : Type 0} → (K → Bool) → List K → List Followed → Type 0
AreOpen {K} is_open kept followed = (one : Followed) → Contains followed one
    → (own : K) × (slice_get kept one.place ≡ Some own) × (is_open own ≡ true)

-- the slot's stem is a signal that is not observed
abbrev pub IsHiddenStem : List Statement → Slot → Type 0
IsHiddenStem c slot = (slot.stem < length (names c)) × (IsObserved c slot.stem → ⊥)

-- the parts of slots come one after the other
abbrev pub AreApart : List Slot → Type 0
AreApart stems = (i k : ℕ) (one other : Slot) → i < k → slice_get stems i ≡ Some one
    → slice_get stems k ≡ Some other → one.end ≤ other.begin

-- A slot has the stem of an open row from one place up to another, as the simulation reads the
-- circuit, and that is not observed; and a part of those that are followed, which came to the stem.
pub record IsGathered {K : Type 0} (is_open : K → Bool) (job : Parts) (c : List Statement)
    (span : BlockSpan) (rows : List ListedClass) (before : List K) (from to : ℕ)
    (followed : List Followed) (slot : Slot) : Type 0 where
  pub at : ℕ
  pub row : ListedClass
  pub low : from ≤ at
  pub high : at < to
  pub idle : IsOpenAt is_open rows before at row
  pub stem : slot.stem ≡ place job.circuit c row.stem
  pub hidden : IsHiddenStem c slot
  pub within : IsWithin followed slot
  pub came : (i : ℕ) (one : Followed) → slot.begin ≤ i → i < slot.end
      → slice_get followed i ≡ Some one → HasArrived job span row.stem one.class one.lanes

-- The open classes from one place up to another: the tests of the span were taken of each, or it is
-- followed in one of the slots, whose parts of those that are followed come one after the other.
pub record AreGathered {K : Type 0} (is_open : K → Bool) (means : (ℕ → Bool) → ℕ → ℕ → K → Type 0)
    (job : Parts) (c : List Statement) (span : BlockSpan) (rows : List ListedClass) (from to : ℕ)
    (stems : List Slot) (followed : List Followed) (before now : List K) : Type 0 where
  pub taken : HaveTakenBut is_open means job span rows followed from to before now
  pub at : AreFollowedAt rows from to followed
  pub ordered : AreInOrder followed
  pub idle : AreOpen is_open before followed
  pub still : AreStill followed before now
  pub each : (slot : Slot) → Contains stems slot
      → IsGathered is_open job c span rows before from to followed slot
  pub apart : AreApart stems
  pub whole : (i : ℕ) → i < length followed → (slot : Slot) × Contains stems slot
      × (slot.begin ≤ i) × (i < slot.end)

-- the copies have the lanes of each test of a span
abbrev pub AreCopied : Layout → ℕ → BlockSpan → Type 0
AreCopied layout tests span = (k : ℕ) → k < 128 → IsInSpan tests span (128 * group_of span + k)
    → (layout.base ≤ k) × (k < layout.base + layout.size)

-- the lanes of a group that a wide word has in a slot
pub record IsPart (layout : Layout) (wide slot part : ℕ) : Type 0 where
  pub own : (k : ℕ) → k < 512 → slot_of layout k ≡ slot
      → lane part (lane_in layout k) ≡ lane wide k
  pub rest : (k : ℕ) → (k < layout.base) ⊎ (layout.base + layout.size ≤ k)
      → lane part k ≡ false

-- a class at this place is followed in one of the first slots, as many as the number
pub record IsInSlot (followed : List Followed) (stems : List Slot) (count place : ℕ) :
    Type 0 where
  pub number : ℕ
  pub below : number < count
  pub slot : Slot
  pub stands : slice_get stems number ≡ Some slot
  pub at : ℕ
  pub low : slot.begin ≤ at
  pub high : at < slot.end
  pub one : Followed
  pub listed : slice_get followed at ≡ Some one
  pub there : one.place ≡ place

-- at the place of a followed class the lanes were taken that it shares with its slot of a wide word
pub record IsSlotConcluded {K : Type 0} (all : Bool) (means : (ℕ → Bool) → ℕ → ℕ → K → Type 0)
    (layout : Layout) (span : BlockSpan) (seen : ℕ) (followed : List Followed) (stems : List Slot)
    (count : ℕ) (before after : List K) (place : ℕ) : Type 0 where
  pub class : IsInSlot followed stems count place
  pub word : ℕ
  pub part : IsPart layout seen class.number word
  pub taken : HasTakenWord all means (group_of span) (bit_and class.one.lanes word) before
      after place

-- so it is at each place of a class in the first slots, and at others nothing has changed
pub record AreSlotsConcluded {K : Type 0} (all : Bool) (means : (ℕ → Bool) → ℕ → ℕ → K → Type 0)
    (layout : Layout) (span : BlockSpan) (seen : ℕ) (followed : List Followed) (stems : List Slot)
    (count : ℕ) (before after : List K) : Type 0 where
  pub many : length after ≡ length before
  pub others : (place : ℕ) → (IsInSlot followed stems count place → ⊥)
      → slice_get after place ≡ slice_get before place
  pub each : (place : ℕ) → IsInSlot followed stems count place
      → IsSlotConcluded all means layout span seen followed stems count before after place

-- there is as much room for regions as before
pub record HasSameRoom (before after : Sensitized) : Type 0 where
  pub known : length after.known ≡ length before.known
  pub path : vec_capacity after.path ≡ vec_capacity before.path

-- there is as much room in a pack as before
pub record IsPackAsLarge (before after : Pack) : Type 0 where
  pub deltas : length after.deltas ≡ length before.deltas
  pub waiting : length after.waiting ≡ length before.waiting
  pub slots : vec_capacity after.slots ≡ vec_capacity before.slots

-- Between two calls no word differs and no gate waits, and there is room for the regions of as many
-- signals, for packs of eight stems and for units.
pub record IsReadyForPacks (changes : PropagationState) (region : Sensitized) (pack : Pack)
    (unit : UnitRoom) : Type 0 where
  pub regions : IsReady changes region
  pub clear : IsPackClear pack
  pub deltas : length pack.deltas ≡ length changes.overlay
  pub waiting : length changes.overlay < length pack.waiting
  pub slots : 8 ≤ vec_capacity pack.slots
  pub unit_region : HasUnitRoom (length changes.overlay) unit.region
  pub unit_classes : 256 ≤ vec_capacity unit.classes
  pub unit_parts : 1024 ≤ vec_capacity unit.followed
