-- What is added to the numbers of the pins.
use Rattle.std.specs.Prelude.{◌≡◌, ◌≢◌, ◌⊎◌, ◌+◌, ◌*◌, ◌-◌, ◌/◌, ◌%◌, ◌^◌, ◌<◌, ◌≤◌}
use Rattle.std.specs.Prelude.{ℕ, true, List, length}
use Rattle.std.specs.Prelude.{All, AllPairs, Contains, min, Some, slice_get, slice_index_or}
use Rattle.std.specs.Bool.{Decides}
use Rattle.bench_net.specs.Statement.{Statement}
use Rattle.fault_model.specs.Fault.{Fault}
use Rattle.fault_model.specs.Solution.{Test}
use Rattle.flat_circuit.specs.BlockSpans.{groups}
use Rattle.flat_circuit.specs.Words.{lane, test_of}
use Rattle.block_sim.specs.Parts.{Parts}
use Rattle.blocking_pins.specs.Blocking.{Blocks, BlocksAt, BlocksFault, BlocksSometimes, HaveCount}
use Rattle.blocking_pins.specs.Blocking.{ComesBefore, IsBlockingPin}
use Rattle.blocking_pins.specs.Effects.{Stops}
use Rattle.blocking_pins.specs.declared.gate_pins.GatePin.{GatePin}
use Rattle.blocking_pins.specs.declared.pins.BlockingPin.{BlockingPin}
use Rattle.blocking_pins.specs.declared.tally.PinCount.{PinCount}

-- A fault, by its number from 1, was counted at a pin if the pin blocks it.
pub data IsMarked (number : ℕ) (P : Type 0) (old new : PinCount) : Type 0 where
  unblocked : ¬ P → new ≡ old → IsMarked number P old new
  again : P → old.last ≡ number → new ≡ old → IsMarked number P old new
  first : P → old.last ≢ number → new ≡ record {
    faults = min (old.faults + 1) (2 ^ 32 - 1);
    last = number;
  } → IsMarked number P old new

-- the numbers and the lanes of all pins, with those of a relation added, which has places of pins
-- and lanes
pub record AreAdded (number : ℕ) (B : ℕ → ℕ → Type 0) (counts after : List PinCount)
    (row now : List ℕ) : Type 0 where
  pub count : length after ≡ length counts
  pub room : length now ≡ length row
  pub marks : (i : ℕ) (old new : PinCount) → slice_get counts i ≡ Some old
      → slice_get after i ≡ Some new
      → IsMarked number ((k : ℕ) × (k < 128) × B i k) old new
  pub lanes : (i k : ℕ) → i < length row → k < 128
      → Decides (lane (slice_index_or now i 0) k) ((lane (slice_index_or row i 0) k ≡ true) ⊎ B i k)

-- The same for the lanes of all groups: the relation has groups, places of pins, and lanes.
pub record AreAllAdded (number : ℕ) (B : ℕ → ℕ → ℕ → Type 0) (end : ℕ)
    (counts after : List PinCount) (rows now : List (List ℕ)) : Type 0 where
  pub count : length after ≡ length counts
  pub room : length now ≡ length rows
  pub long : (group : ℕ) (row next : List ℕ) → slice_get rows group ≡ Some row
      → slice_get now group ≡ Some next → length next ≡ length row
  pub marks : (i : ℕ) (old new : PinCount) → slice_get counts i ≡ Some old
      → slice_get after i ≡ Some new
      → IsMarked number ((group : ℕ) × (k : ℕ) × (group < end) × (k < 128) × B group i k) old new
  pub lanes : (group : ℕ) (row next : List ℕ) (i k : ℕ) → slice_get rows group ≡ Some row
      → slice_get now group ≡ Some next → i < length row → k < 128
      → Decides (lane (slice_index_or next i 0) k)
      ((lane (slice_index_or row i 0) k ≡ true) ⊎ ((group < end) × B group i k))

-- The numbers and the lanes of all pins, for the faults of a job before one.
pub record IsTallyBelow (job : Parts) (pins : List GatePin) (end : ℕ) (counts : List PinCount)
    (rows : List (List ℕ)) : Type 0 where
  pub count : length counts ≡ length pins
  pub room : length rows ≡ groups (length job.tests.tests)
  pub long : (group : ℕ) (row : List ℕ) → slice_get rows group ≡ Some row
      → length row ≡ length pins
  pub last : (i : ℕ) (count : PinCount) → slice_get counts i ≡ Some count → count.last ≤ end
  pub faults : (i : ℕ) (at : GatePin) (count : PinCount) → slice_get pins i ≡ Some at
      → slice_get counts i ≡ Some count
      → HaveCount (BlocksSometimes job at.gate at.pin) end count.faults
  pub lanes : (group i k : ℕ) (row : List ℕ) (at : GatePin) → slice_get rows group ≡ Some row
      → slice_get pins i ≡ Some at → k < 128
      → Decides (lane (slice_index_or row i 0) k)
      ((fault : ℕ) × (fault < end) × BlocksFault job at.gate at.pin fault (128 * group + k))

-- the list has at this place a pin that blocks the fault under the test
abbrev pub BlocksAtPlace : List Statement → List Test → Fault → List GatePin → ℕ → ℕ → Type 0
BlocksAtPlace c tests f pins i t = (at : GatePin) × (slice_get pins i ≡ Some at)
    × BlocksAt c tests f at.gate at.pin t

-- of a group of words: in this lane, which is one of some lanes
abbrev pub BlocksInLane : List Statement → List Test → ℕ → ℕ → Fault → List GatePin → ℕ → ℕ
    → Type 0
BlocksInLane c tests group lanes f pins i k = (at : GatePin) × (slice_get pins i ≡ Some at)
    × (lane lanes k ≡ true) × Blocks c (test_of tests group k) f at.gate at.pin

-- a pin of a gate, given by its place, blocks the effect, where the gate's pins begin
abbrev pub StopsAt : List Statement → Fault → List ℕ → List ℕ → ℕ → List ℕ → ℕ → ℕ → ℕ → Type 0
StopsAt d f good delta lanes starts gate i k = (pin : ℕ)
    × (i ≡ slice_index_or starts gate 0 + pin) × (lane lanes k ≡ true)
    × Stops d f good delta gate pin k

-- of one of the gates that the effect came to
abbrev pub StopsReached : List Statement → Fault → List ℕ → List ℕ → ℕ → List ℕ → List ℕ → ℕ → ℕ
    → Type 0
StopsReached d f good delta lanes starts reached i k = (gate : ℕ) × Contains reached gate
    × StopsAt d f good delta lanes starts gate i k

-- the rows of all groups have the bit of a place in the lane of a test
abbrev pub HasBit : List (List ℕ) → ℕ → ℕ → Type 0
HasBit rows at t = (row : List ℕ) × (slice_get rows (t / 128) ≡ Some row)
    × (lane (slice_index_or row at 0) (t % 128) ≡ true)

-- the pins that block undetected faults, by their gates
pub record AreListedPins (job : Parts) (rows : List BlockingPin) : Type 0 where
  pub each : All (IsBlockingPin job) rows
  pub all : (gate pin fault t : ℕ) → BlocksFault job gate pin fault t
      → (row : BlockingPin) × Contains rows row × (row.gate ≡ gate) × (row.pin ≡ pin)
  pub ordered : AllPairs ComesBefore rows
