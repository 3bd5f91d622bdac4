-- The pins that block the effects of faults.
use Rattle.std.specs.Prelude.{◌≡◌, ◌≢◌, ◌⊎◌, ◌<◌, ℕ, suc, Bool, true}
use Rattle.std.specs.Prelude.{false, All, AllPairs, Contains}
use Rattle.std.specs.Prelude.{List, length, Option, Some, None, slice_get}
use Rattle.bench_net.specs.declared.Kind.{Kind}
use Rattle.bench_net.specs.declared.Kind.TheVariants.{And, Nand, Or, Nor}
use Rattle.bench_net.specs.Statement.{Name, Statement, Gate}
use Rattle.bench_net.specs.Scan.{gate_of, signal}
use Rattle.fault_model.specs.declared.Line.TheVariants as line
use Rattle.fault_model.specs.Detection.{DetectsAt, LooksBack}
use Rattle.fault_model.specs.Fault.{Fault}
use Rattle.fault_model.specs.Solution.{Test, Solves, pins_see, sees}
use Rattle.block_sim.specs.Parts.{Parts}
use Rattle.blocking_pins.specs.declared.pins.BlockingPin.{BlockingPin}

-- the controlling value of a gate: the bit of a pin that decides the gate's bit, whatever the other
-- pins see
abbrev pub controlling : Kind → Option Bool
controlling And = Some false
controlling Nand = Some false
controlling Or = Some true
controlling Nor = Some true
controlling _ = None

-- Under a test a pin of a gate blocks the effect of a fault. The gate has the same bit in the
-- fault-free circuit and in the faulty one, and some of its pins see different bits in the two.
-- This pin sees the controlling value in both.
pub record Blocks (c : List Statement) (t : Test) (f : Fault) (gate pin : ℕ) : Type 0 where
  pub fault_free : Name → Bool
  pub faulty : Name → Bool
  pub name : Name
  pub kind : Kind
  pub args : List Name
  pub read : Name
  pub bit : Bool
  pub solves : Solves c t None fault_free
  pub solves_faulty : Solves c t (Some f) faulty
  pub stands : Contains c (Gate name kind args)
  pub number : signal c name ≡ gate
  pub same : fault_free name ≡ faulty name
  pub enters : pins_see None fault_free gate args ≢ pins_see (Some f) faulty gate args
  pub at : slice_get args pin ≡ Some read
  pub controls : controlling kind ≡ Some bit
  pub free_bit : sees None fault_free (line.Pin gate pin) read ≡ bit
  pub faulty_bit : sees (Some f) faulty (line.Pin gate pin) read ≡ bit

-- The pin blocks the fault under the test of this number, and the test before meets the condition
-- of the fault's model. A fault that the test doesn't activate changes no pin, so none blocks it.
abbrev pub BlocksAt : List Statement → List Test → Fault → ℕ → ℕ → ℕ → Type 0
BlocksAt c tests f gate pin t = (test : Test) × (slice_get tests t ≡ Some test)
    × Blocks c test f gate pin × LooksBack c tests f.model f.line f.stuck t

-- the fault of this number is undetected, and the pin blocks it under the test of this number
abbrev pub BlocksFault : Parts → ℕ → ℕ → ℕ → ℕ → Type 0
BlocksFault job gate pin fault t = (f : Fault) × (slice_get job.list.list fault ≡ Some f)
    × ((u : ℕ) → ¬ DetectsAt job.circuit job.tests.tests f u)
    × BlocksAt job.circuit job.tests.tests f gate pin t

-- of the numbers below one, this many have a property
pub data HaveCount (P : ℕ → Type 0) : ℕ → ℕ → Type 0 where
  none : HaveCount P 0 0
  counted : {n k : ℕ} → HaveCount P n k → P n → HaveCount P (suc n) (suc k)
  skipped : {n k : ℕ} → HaveCount P n k → ¬ P n → HaveCount P (suc n) k

-- the pin blocks this fault under some test, and under this test some fault
abbrev pub BlocksSometimes : Parts → ℕ → ℕ → ℕ → Type 0
BlocksSometimes job gate pin fault = (t : ℕ) × BlocksFault job gate pin fault t

abbrev pub BlocksSome : Parts → ℕ → ℕ → ℕ → Type 0
BlocksSome job gate pin t = (fault : ℕ) × BlocksFault job gate pin fault t

-- the signal that a pin of a gate reads, the controlling value, and the numbers of the faults and
-- of the tests
pub record IsBlockingPin (job : Parts) (row : BlockingPin) : Type 0 where
  pub kind : Kind
  pub pins : List ℕ
  pub driven : gate_of job.circuit row.gate ≡ Some (kind, pins)
  pub reads : slice_get pins row.pin ≡ Some row.read
  pub controls : controlling kind ≡ Some row.value
  pub some : 0 < row.faults
  pub faults : HaveCount (BlocksSometimes job row.gate row.pin) (length job.list.list) row.faults
  pub tests : HaveCount (BlocksSome job row.gate row.pin) (length job.tests.tests) row.tests

-- one pin comes before another: by its gate, and at one gate by its number
abbrev pub ComesBefore : BlockingPin → BlockingPin → Type 0
ComesBefore a b = (a.gate < b.gate) ⊎ ((a.gate ≡ b.gate) × (a.pin < b.pin))

-- one pin stands above another: it blocks more faults, or as many under more tests, or as many
-- under as many and it comes before
abbrev pub StandsAbove : BlockingPin → BlockingPin → Type 0
StandsAbove a b = (b.faults < a.faults) ⊎ ((a.faults ≡ b.faults)
    × ((b.tests < a.tests) ⊎ ((a.tests ≡ b.tests) × ComesBefore a b)))

-- All pins that block an undetected fault under a test, in this order. So each stands once.
pub record AreBlockingPins (job : Parts) (rows : List BlockingPin) : Type 0 where
  pub each : All (IsBlockingPin job) rows
  pub all : (gate pin fault t : ℕ) → BlocksFault job gate pin fault t
      → (row : BlockingPin) × Contains rows row × (row.gate ≡ gate) × (row.pin ≡ pin)
  pub ordered : AllPairs StandsAbove rows

-- the flags say which faults of the list some test detects
pub record AreDetected (job : Parts) (flags : List Bool) : Type 0 where
  pub count : length flags ≡ length job.list.list
  pub found : (i : ℕ) (f : Fault) → slice_get job.list.list i ≡ Some f
      → slice_get flags i ≡ Some true
      → (t : ℕ) × DetectsAt job.circuit job.tests.tests f t
  pub none : (i : ℕ) (f : Fault) → slice_get job.list.list i ≡ Some f
      → slice_get flags i ≡ Some false
      → (t : ℕ) → ¬ DetectsAt job.circuit job.tests.tests f t
