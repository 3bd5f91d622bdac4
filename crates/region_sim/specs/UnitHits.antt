-- What a simulation of regions takes of the tests of a unit, by the places of a list of classes.
use Rattle.std.specs.Prelude.{◌≡◌, ◌≢◌, ◌⊎◌, ◌+◌, ◌*◌, ◌/◌, ℕ, ◌<◌, ◌≤◌, Bool, List, Contains, Some}
use Rattle.std.specs.Prelude.{true, false}
use Rattle.std.specs.Prelude.{[], ◌∷◌, ◌++◌, All, bit_and, length, slice_get}
use Rattle.std.specs.Prelude.{vec_capacity}
use Rattle.wide_words.specs.Lanes.{lane_in, slot_of}
use Rattle.wide_words.specs.Layouts.{both_layout}
use Rattle.wide_words.specs.Wide.{number}
use Rattle.flat_circuit.specs.declared.origin.ListedClass.{ListedClass}
use Rattle.region_sim.specs.declared.pack.Pack.{Pack}
use Rattle.region_sim.specs.declared.pack.Slot.{Slot}
use Rattle.block_sim.specs.declared.propagation.Followed.{Followed}
use Rattle.region_sim.specs.declared.unit_simulation.Unit.{Unit as UnitRoom}
use Rattle.region_sim.specs.declared.unit_simulation.UnitClass.{UnitClass}
use Rattle.region_sim.specs.Pack.{IsIn, IsPackClear, IsWithin}
use Rattle.block_sim.specs.Parts.{Parts}
use Rattle.region_sim.specs.Goals.{HasTakenAt}
use Rattle.region_sim.specs.RegionHits.{IsOpenAt}
use Rattle.region_sim.specs.Units.{ArrivesInUnit, unit_span}
use Rattle.flat_circuit.specs.Words.{lane}

-- the place is that of a class that came to the stem
abbrev pub IsClassAt : List UnitClass → ℕ → Type 0
IsClassAt classes place = (one : UnitClass) × Contains classes one × (one.place ≡ place)

-- for each open class from one place up to another the tests of the unit were taken, or it came to
-- the stem and nothing was taken
abbrev pub HaveTakenBeside : {K : Type 0} → (K → Bool) → ((ℕ → Bool) → ℕ → ℕ → K → Type 0) → Parts
    → ℕ → List ListedClass → List UnitClass → ℕ → ℕ → List K → List K → Type 0
HaveTakenBeside is_open means job group rows classes from to before now =
    (place : ℕ) (row : ListedClass) → from ≤ place → place < to
    → IsOpenAt is_open rows before place row
    → HasTakenAt means job (unit_span group) row before now place
    ⊎ (IsClassAt classes place × (slice_get now place ≡ slice_get before place))

-- each class that came to the stem is that of its place, which is one of those from one up to
-- another
abbrev pub AreClassesAt : List ListedClass → ℕ → ℕ → List UnitClass → Type 0
AreClassesAt rows from to classes = (one : UnitClass) → Contains classes one
    → (from ≤ one.place) × (one.place < to)
    × (row : ListedClass) × (slice_get rows one.place ≡ Some row) × (row.class ≡ one.class)

-- and so it did, in its lanes
abbrev pub HaveArrivedInUnit : Parts → ℕ → ℕ → List UnitClass → Type 0
HaveArrivedInUnit job group stem classes = (one : UnitClass) → Contains classes one
    → ArrivesInUnit job group stem one.class (number one.lanes)

-- something is open of each of them
abbrev pub AreClassesOpen : {K : Type 0} → (K → Bool) → List K → List UnitClass → Type 0
AreClassesOpen {K} is_open kept classes = (one : UnitClass) → Contains classes one
    → (own : K) × (slice_get kept one.place ≡ Some own) × (is_open own ≡ true)

-- they stand in the order of their places, and none has the place of another
abbrev pub AreClassesInOrder : List UnitClass → Type 0
AreClassesInOrder classes = (i k : ℕ) (one other : UnitClass) → i < k
    → slice_get classes i ≡ Some one → slice_get classes k ≡ Some other → one.place < other.place

-- at their places stands what stood there before
abbrev pub AreClassesStill : {K : Type 0} → List UnitClass → List K → List K → Type 0
AreClassesStill classes before now = (one : UnitClass) → Contains classes one
    → slice_get now one.place ≡ slice_get before one.place

-- The lanes of a wide word tell which tests of a unit are hits. Each lane that is 1 is a hit. If
-- all lanes count, each hit has its lane; if not, each hit of a group has its lane that has no lane
-- below it in the group.
pub record TellUnitHits (all : Bool) (hits : ℕ → Bool) (group word : ℕ) : Type 0 where
  pub right : (k : ℕ) → k < 512 → lane word k ≡ true → hits (128 * group + k) ≡ true
  pub whole : (k : ℕ) → k < 512 → hits (128 * group + k) ≡ true
      → (all ≡ true) ⊎ ((j : ℕ) → j < k → j / 128 ≡ k / 128 → lane word j ≡ false)
      → lane word k ≡ true

-- the tests of a unit were taken
abbrev pub HasTakenUnit : {K : Type 0} → Bool → ((ℕ → Bool) → ℕ → ℕ → K → Type 0) → ℕ → ℕ → K → K
    → Type 0
HasTakenUnit all means group word old new = (hits : ℕ → Bool) (low : ℕ) → low ≤ 128 * group
    → TellUnitHits all hits group word → means hits low (128 * group) old
    → means hits low (128 * group + 512) new

-- at a place
abbrev pub HasTakenUnitAt : {K : Type 0} → Bool → ((ℕ → Bool) → ℕ → ℕ → K → Type 0) → ℕ → ℕ
    → List K → List K → ℕ → Type 0
HasTakenUnitAt {K} all means group word before after place = (old : K) × (new : K)
    × (slice_get before place ≡ Some old) × (slice_get after place ≡ Some new)
    × HasTakenUnit all means group word old new

-- of each class that came to the stem those of its lanes were taken in which the complemented stem
-- is detected
abbrev pub AreUnitConcluded : {K : Type 0} → Bool → ((ℕ → Bool) → ℕ → ℕ → K → Type 0) → ℕ → ℕ
    → List UnitClass → List K → List K → Type 0
AreUnitConcluded all means group seen classes before after = (one : UnitClass)
    → Contains classes one
    → HasTakenUnitAt all means group (bit_and (number one.lanes) seen) before after one.place

-- a part of a class: its lanes in the slot of a lane
abbrev pub IsPartIn : UnitClass → ℕ → Followed → Type 0
IsPartIn one k part = (j : ℕ) → j < 512 → slot_of both_layout j ≡ slot_of both_layout k
    → lane part.lanes (lane_in both_layout j) ≡ lane (number one.lanes) j

-- One stem has four slots, which have the parts of all classes in their lanes.
pub record AreParted (stem : ℕ) (classes : List UnitClass) (slots : List Slot)
    (followed : List Followed) : Type 0 where
  pub many : length slots ≡ 4
  pub stems : All (λ slot. slot.stem ≡ stem) slots
  pub within : All (IsWithin followed) slots
  pub each : (one : UnitClass) (k : ℕ) → Contains classes one → k < 512
      → lane (number one.lanes) k ≡ true
      → (part : Followed) × IsIn both_layout slots followed k part × IsPartIn one k part
  pub only : (k : ℕ) (part : Followed) → k < 512 → IsIn both_layout slots followed k part
      → (one : UnitClass) × Contains classes one × (lane (number one.lanes) k ≡ true)

-- the parts that classes have in a slot were added at the end of a list
pub record ArePartsAdded (slot : ℕ) (classes : List UnitClass) (before after : List Followed) :
    Type 0 where
  pub more : length before ≤ length after
  pub kept : (i : ℕ) → i < length before → slice_get after i ≡ slice_get before i
  pub each : (one : UnitClass) (k : ℕ) → Contains classes one → k < 512
      → slot_of both_layout k ≡ slot → lane (number one.lanes) k ≡ true
      → (i : ℕ) × (part : Followed) × (length before ≤ i) × (i < length after)
      × (slice_get after i ≡ Some part) × IsPartIn one k part
  pub only : (i : ℕ) (part : Followed) → length before ≤ i → slice_get after i ≡ Some part
      → (one : UnitClass) × Contains classes one
      × ((k : ℕ) → k < 512 → slot_of both_layout k ≡ slot → IsPartIn one k part)

-- One row more is followed alone: the tests of the unit were taken of its class, or it came to the
-- stem.
abbrev pub IsTakenOrCame : {K : Type 0} → ((ℕ → Bool) → ℕ → ℕ → K → Type 0) → Parts → ℕ
    → ListedClass → ℕ → List UnitClass → List UnitClass → List K → List K → Type 0
IsTakenOrCame {K} means job group row place was classes old now =
    ((classes ≡ was) × (length now ≡ length old)
    × ((other : ℕ) → other ≢ place → slice_get now other ≡ slice_get old other)
    × HasTakenAt means job (unit_span group) row old now place)
    ⊎ ((now ≡ old) × (one : UnitClass) × (one.class ≡ row.class) × (one.place ≡ place)
    × ArrivesInUnit job group row.stem one.class (number one.lanes) × (classes ≡ was ++ one ∷ []))

-- no word differs and no gate waits, and there is room for this many signals and for four slots
pub record IsUnitPack (signals : ℕ) (pack : Pack) : Type 0 where
  pub clear : IsPackClear pack
  pub deltas : signals ≤ length pack.deltas
  pub waiting : signals < length pack.waiting
  pub slots : 4 ≤ vec_capacity pack.slots

-- there is as much room for a unit as before
pub record IsUnitAsLarge (before after : UnitRoom) : Type 0 where
  pub known : length after.region.known ≡ length before.region.known
  pub path : vec_capacity after.region.path ≡ vec_capacity before.region.path
  pub classes : vec_capacity after.classes ≡ vec_capacity before.classes
  pub followed : vec_capacity after.followed ≡ vec_capacity before.followed
