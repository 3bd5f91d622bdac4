-- Packs: the lanes of a wide word stand for pairs of a test and a stem.
use Rattle.std.specs.Prelude.{◌≡◌, ◌≢◌, ◌⊎◌, ℕ, ◌<◌, ◌≤◌, Bool, true, false, List, All, Contains}
use Rattle.std.specs.Prelude.{None}
use Rattle.std.specs.Prelude.{Some}
use Rattle.std.specs.Prelude.{length, map, bit_and, bit_or, slice_get, slice_index_or, slice_range}
use Rattle.std.specs.Prelude.{slice_set}
use Rattle.std.specs.Bool.{Decides}
use Rattle.bench_net.specs.declared.Kind.{Kind}
use Rattle.bench_net.specs.Statement.{Statement}
use Rattle.bench_net.specs.Scan.{gate_of, names}
use Rattle.fault_model.specs.Solution.{Test, value}
use Rattle.wide_words.specs.Lanes.{Layout, lane_in, slot_of, slots}
use Rattle.region_sim.specs.declared.pack.Pack.{Pack}
use Rattle.region_sim.specs.declared.pack.Slot.{Slot}
use Rattle.block_sim.specs.declared.propagation.Followed.{Followed}
use Rattle.flat_circuit.specs.Readers.{IsLive, IsObserved, Reads}
use Rattle.flat_circuit.specs.GateForms.{inverted_if}
use Rattle.block_sim.specs.Flips.{DetectsFlip}
use Rattle.flat_circuit.specs.Words.{AreWords, lane, test_of}

-- The bit of a signal in a lane of a wide word: its fault-free bit under the lane's test, inverted
-- where the signal differs. For each slot there are the fault-free words of its group.
abbrev pub wide_bit : Layout → (ℕ → List ℕ) → List ℕ → ℕ → ℕ → Bool
wide_bit layout good delta k s =
    inverted_if (lane (slice_index_or delta s 0) k)
    (lane (slice_index_or (good (slot_of layout k)) s 0) (lane_in layout k))

-- in each slot there is a word for each signal of the circuit
abbrev pub HaveCounts : List Statement → Layout → (ℕ → List ℕ) → Type 0
HaveCounts c layout good = (slot : ℕ) → slot < slots layout
    → length (good slot) ≡ length (names c)

-- the words of each slot are the fault-free words of the slot's group
abbrev pub AreRows : List Statement → List Test → Layout → (ℕ → ℕ) → (ℕ → List ℕ) → Type 0
AreRows c tests layout group good = (slot : ℕ) → slot < slots layout
    → AreWords c tests (group slot) None (good slot)

-- the word of each gate's signal has in each lane the bit that its kind gives for those of its pins
abbrev pub AreGateWords : List Statement → List ℕ → Type 0
AreGateWords c good = (gate j : ℕ) (kind : Kind) (pins : List ℕ) → j < 128
    → gate_of c gate ≡ Some (kind, pins)
    → lane (slice_index_or good gate 0) j
    ≡ value kind (map (λ s. lane (slice_index_or good s 0) j) pins)

-- so it is in each slot
abbrev pub AreGateRows : List Statement → Layout → (ℕ → List ℕ) → Type 0
AreGateRows c layout good = (slot : ℕ) → slot < slots layout → AreGateWords c (good slot)

-- The lanes of a word are those in which a gate's signal differs from its fault-free bit, if it has
-- the bit that its kind gives for those of its pins.
abbrev pub IsDifference : List Statement → Layout → (ℕ → List ℕ) → List ℕ → ℕ → ℕ → Type 0
IsDifference c layout good delta gate word = (kind : Kind) (pins : List ℕ) (k : ℕ) → k < 512
    → gate_of c gate ≡ Some (kind, pins)
    → inverted_if (lane word k)
    (lane (slice_index_or (good (slot_of layout k)) gate 0) (lane_in layout k))
    ≡ value kind (map (wide_bit layout good delta k) pins)

-- some class came to the stem in a lane of its group
abbrev pub HaveLane : List Followed → ℕ → Type 0
HaveLane followed j = (one : Followed) × Contains followed one × (lane one.lanes j ≡ true)

-- each class that is followed in a lane of a slot has a lane of its own there that was seen, this
-- one or one below
abbrev pub HaveHitsIn : Layout → List Followed → ℕ → ℕ → Type 0
HaveHitsIn layout followed seen k = (one : Followed) → Contains followed one
    → lane one.lanes (lane_in layout k) ≡ true
    → (m : ℕ) × (m ≤ k) × (slot_of layout m ≡ slot_of layout k)
    × (lane one.lanes (lane_in layout m) ≡ true) × (lane seen m ≡ true)

-- some lane of the slot of a lane is 1
abbrev pub HasLaneBeside : Layout → ℕ → ℕ → Type 0
HasLaneBeside layout word k = (m : ℕ) × (m < 512) × (slot_of layout m ≡ slot_of layout k)
    × (lane word m ≡ true)

-- Of the first slots, as many as the number, those in which some lane is fresh keep the lanes that
-- have no hits, and all other slots keep each lane that they had.
pub record AreKeptAfter (layout : Layout) (followed : List Followed) (slots : List Slot)
    (kept fresh seen after count : ℕ) : Type 0 where
  pub narrowed : (k : ℕ) (slot : Slot) → k < 512 → slot_of layout k < count
      → slice_get slots (slot_of layout k) ≡ Some slot → HasLaneBeside layout fresh k
      → Decides (lane after k) ((lane kept k ≡ true)
      × (HaveHitsIn layout (slice_range followed slot.begin slot.end) seen k → ⊥))
  pub stale : (k : ℕ) → k < 512 → (HasLaneBeside layout fresh k → ⊥) → lane after k ≡ lane kept k
  pub beyond : (k : ℕ) → k < 512 → count ≤ slot_of layout k → lane after k ≡ lane kept k

-- the slot has a part of the list
abbrev pub IsWithin : List Followed → Slot → Type 0
IsWithin followed slot = (slot.begin ≤ slot.end) × (slot.end ≤ length followed)

-- A gate was evaluated: its signal differs in the lanes in which it did and in those that are
-- followed in which its gate says so, and no other signal has changed.
abbrev pub IsEvaluated : List Statement → Layout → (ℕ → List ℕ) → ℕ → ℕ → List ℕ → List ℕ
    → Type 0
IsEvaluated c layout good kept gate before after = (word : ℕ)
    × IsDifference c layout good before gate word
    × (after ≡ slice_set before gate
    (bit_or (slice_index_or before gate 0) (bit_and word kept)))

-- the stem of a lane: that of its slot
abbrev pub stem_at : Layout → List Slot → ℕ → ℕ
stem_at layout stems k = slice_index_or (map (λ slot. slot.stem) stems) (slot_of layout k) 0

-- a class that came to the stem of the lane's slot, and did in the lane
pub record IsIn (layout : Layout) (stems : List Slot) (followed : List Followed) (k : ℕ)
    (one : Followed) : Type 0 where
  pub slot : Slot
  pub at : ℕ
  pub stands : slice_get stems (slot_of layout k) ≡ Some slot
  pub low : slot.begin ≤ at
  pub high : at < slot.end
  pub listed : slice_get followed at ≡ Some one
  pub comes : lane one.lanes (lane_in layout k) ≡ true

-- The stems of the slots differ, each in the lanes of its own slot in which a class came to it.
-- Their live readers wait, and no other gate does.
pub record AreStarted (layout : Layout) (c : List Statement) (stems : List Slot)
    (followed : List Followed) (delta at : List ℕ) (mask from : ℕ) : Type 0 where
  pub only : (s k : ℕ) → k < 512 → lane (slice_index_or delta s 0) k ≡ true
      → s ≡ stem_at layout stems k
  pub kept : (k : ℕ) → k < 512
      → lane mask k ≡ lane (slice_index_or delta (stem_at layout stems k) 0) k
  pub lanes : (k : ℕ) → k < 512 → lane mask k ≡ true
      → (one : Followed) × IsIn layout stems followed k one
  pub all : (k : ℕ) (one : Followed) → k < 512 → IsIn layout stems followed k one
      → lane mask k ≡ true
  pub stems_alone : (s : ℕ) → slice_index_or delta s 0 ≢ 0
      → (slot : Slot) × Contains stems slot × (slot.stem ≡ s)
  pub some : (s : ℕ) → slice_index_or delta s 0 ≢ 0
      → (k : ℕ) × (k < 512) × (lane (slice_index_or delta s 0) k ≡ true)
  pub readers : (s r : ℕ) → slice_index_or delta s 0 ≢ 0 → Reads c r s → IsLive c r
      → slice_index_or at r 0 ≢ 0
  pub waiting : (r : ℕ) → slice_index_or at r 0 ≢ 0
      → (s : ℕ) × (slice_index_or delta s 0 ≢ 0) × Reads c r s × IsLive c r
  pub least : (s : ℕ) → slice_index_or delta s 0 ≢ 0 → from ≤ s

-- of each class that came to the lane's stem in it some lane of the slot that is not above this
-- one was seen
abbrev pub AreHitIn : Layout → List Slot → List Followed → ℕ → ℕ → Type 0
AreHitIn layout stems followed seen k = (one : Followed) → IsIn layout stems followed k one
    → (j : ℕ) × (j < 512) × (slot_of layout j ≡ slot_of layout k)
    × (lane_in layout j ≤ lane_in layout k)
    × (lane one.lanes (lane_in layout j) ≡ true) × (lane seen j ≡ true)

-- the slots stand in a wide word, each has a part of the list, and each has a signal as its stem,
-- which is not observed
pub record AreSlots (layout : Layout) (c : List Statement) (stems : List Slot)
    (followed : List Followed) : Type 0 where
  pub few : length stems ≤ slots layout
  pub within : All (IsWithin followed) stems
  pub signals : All (λ slot. slot.stem < length (names c)) stems
  pub hidden : All (λ slot. ¬ IsObserved c slot.stem) stems

-- there is room for each signal of the circuit, and for a place past them
pub record HasPackRoom (c : List Statement) (pack : Pack) : Type 0 where
  pub deltas : length (names c) ≤ length pack.deltas
  pub gates : length (names c) < length pack.waiting

-- no signal differs and no gate waits
pub record IsPackClear (pack : Pack) : Type 0 where
  pub deltas : All (λ word. word ≡ 0) pack.deltas
  pub gates : All (λ at. at ≡ 0) pack.waiting

-- A wide word has the lanes whose tests detect the complemented stem of their slot. If all lanes
-- count, it has each in which a class came to the stem; if not, of each class up to its least.
pub record TellsPack (every : Bool) (layout : Layout) (c : List Statement) (tests : List Test)
    (group : ℕ → ℕ) (stems : List Slot) (followed : List Followed) (word : ℕ) : Type 0 where
  pub found : (k : ℕ) → k < 512 → lane word k ≡ true → slot_of layout k < length stems
      → DetectsFlip c (test_of tests (group (slot_of layout k)) (lane_in layout k)) (stem_at layout
      stems k)
  pub clear : (k : ℕ) (one : Followed) → k < 512 → IsIn layout stems followed k one
      → lane word k ≡ false
      → (every ≡ true) ⊎ ((j : ℕ) → j < 512 → slot_of layout j ≡ slot_of layout k
      → lane_in layout j ≤ lane_in layout k → lane one.lanes (lane_in layout j) ≡ true
      → lane word j ≡ false)
      → ¬ DetectsFlip c (test_of tests (group (slot_of layout k)) (lane_in layout k)) (stem_at
      layout stems k)
