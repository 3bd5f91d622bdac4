-- The gates that a fault makes active on a block. A simulation evaluates them to compute the
-- fault's effect.
use Rattle.std.specs.Prelude.{◌≡◌, ◌≢◌, ℕ, ◌+◌, ◌*◌, ◌<◌, Bool, true, List, length, Contains, Some}
use Rattle.std.specs.Prelude.{None, slice_get}
use Rattle.bench_net.specs.declared.Kind.{Kind}
use Rattle.bench_net.specs.Statement.{Name, Statement, Gate}
use Rattle.bench_net.specs.Scan.{signal}
use Rattle.fault_model.specs.declared.Line.TheVariants as line
use Rattle.fault_model.specs.Fault.{Fault}
use Rattle.fault_model.specs.Solution.{Test, Solves, sees}
use Rattle.patterns.specs.Tests.{size_of}
use Rattle.flat_circuit.specs.Words.{lane}

-- Under a test some pin of the gate sees another bit with the fault than without it. A transition
-- fault counts as its line stuck at the fault's bit.
pub record IsActiveBy (c : List Statement) (t : Test) (f : Fault) (gate : ℕ) : Type 0 where
  pub fault_free : Name → Bool
  pub faulty : Name → Bool
  pub name : Name
  pub kind : Kind
  pub args : List Name
  pub pin : ℕ
  pub read : Name
  pub solves : Solves c t None fault_free
  pub solves_faulty : Solves c t (Some f) faulty
  pub stands : Contains c (Gate name kind args)
  pub number : signal c name ≡ gate
  pub at : slice_get args pin ≡ Some read
  pub differs : sees None fault_free (line.Pin gate pin) read
      ≢ sees (Some f) faulty (line.Pin gate pin) read

-- each of the lanes has a test of the group
abbrev pub AreInGroup : List Test → ℕ → ℕ → Type 0
AreInGroup tests group lanes = (k : ℕ) → k < 128 → lane lanes k ≡ true
    → 128 * group + k < length tests

-- in one of the lanes the test makes the gate active, with the fault of the lane
abbrev pub IsActiveIn : List Statement → List Test → ℕ → ℕ → (ℕ → Fault) → ℕ → Type 0
IsActiveIn c tests group lanes f gate =
    (k : ℕ) × (t : Test) × (k < 128) × (lane lanes k ≡ true)
    × (slice_get tests (128 * group + k) ≡ Some t) × IsActiveBy c t (f k) gate

-- the list has each gate that the faults, one for each lane, make active in the lanes
abbrev pub HasActiveIn : List Statement → List Test → ℕ → ℕ → (ℕ → Fault) → List ℕ → Type 0
HasActiveIn c tests group lanes f gates = (gate : ℕ) → IsActiveIn c tests group lanes f gate
    → Contains gates gate

-- some test of the block makes the gate active
abbrev pub IsActive : List Statement → List Test → ℕ → Fault → ℕ → Type 0
IsActive c tests block f gate =
    (k : ℕ) × (t : Test) × (k < size_of (length tests) block)
    × (slice_get tests (64 * block + k) ≡ Some t) × IsActiveBy c t f gate

-- the list has each gate that the fault makes active on the block
abbrev pub HasActive : List Statement → List Test → ℕ → Fault → List ℕ → Type 0
HasActive c tests block f gates = (gate : ℕ) → IsActive c tests block f gate
    → Contains gates gate
