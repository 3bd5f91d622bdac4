-- Which tests of a list detect a fault of a model.
use Rattle.std.specs.Prelude.{◌≡◌, ◌↔◌, ◌+◌, ◌*◌, ⊤, ℕ, zero, suc, Bool, List, Option, Some, None}
use Rattle.std.specs.Prelude.{option_map, slice_get}
use Rattle.bench_net.specs.Statement.{Name, Statement, Gate}
use Rattle.bench_net.specs.Scan.{name_of, definition, cells, outputs}
use Rattle.fault_model.specs.declared.Line.{Line}
use Rattle.fault_model.specs.declared.Line.TheVariants as line
use Rattle.fault_model.specs.declared.Model.{Model}
use Rattle.fault_model.specs.declared.Model.TheVariants.{StuckAt, Transition, TransitionPairs}
use Rattle.fault_model.specs.Fault.{Fault}
use Rattle.fault_model.specs.Solution.{Test, Solves, Detects}
use Rattle.fault_model.specs.Collapse.{AreEquivalent, IsClassOf, representatives}

-- the name that a pin of a gate reads
abbrev pub argument : Option Statement → ℕ → Option Name
argument (Some (Gate n kind args)) pin = slice_get args pin
argument _ pin = None

-- the name that a line carries: the stem's name, or the name that the sink of a branch reads
abbrev pub name_on : List Statement → Line → Option Name
name_on c (line.Stem s) = name_of c s
name_on c (line.Pin gate pin) = argument (definition c gate) pin
name_on c (line.Data cell) = option_map (λ qd. qd.1) (slice_get (cells c) cell)
name_on c (line.Out output) = slice_get (outputs c) output

-- in the fault-free circuit a test gives the line this bit
abbrev pub HasBit : List Statement → Test → Line → Bool → Type 0
HasBit c t l b = (v : Name → Bool) × (n : Name) × Solves c t None v × (name_on c l ≡ Some n)
    × (v n ≡ b)

-- The test before this one initializes the line at the bit: in the fault-free circuit it gives the
-- line this bit. The first test has none before it.
abbrev pub IsInitialized : List Statement → List Test → Line → Bool → ℕ → Type 0
IsInitialized c tests l b zero = ⊥
IsInitialized c tests l b (suc t) = (before : Test) × (slice_get tests t ≡ Some before)
    × HasBit c before l b

-- the test of this number is the second of its pair: tests 0 and 1 are a pair, 2 and 3, and so on
abbrev pub IsSecondOfPair : ℕ → Type 0
IsSecondOfPair t = (pair : ℕ) × (t ≡ 2 * pair + 1)

-- The condition on the test before. A stuck-at fault has none. For a transition fault the test
-- before gives the line the bit that it is slow to leave. In a list of pairs the test before is
-- also the first of the pair.
abbrev pub LooksBack : List Statement → List Test → Model → Line → Bool → ℕ → Type 0
LooksBack c tests StuckAt l b t = ⊤
LooksBack c tests Transition l b t = IsInitialized c tests l b t
LooksBack c tests TransitionPairs l b t = IsSecondOfPair t × IsInitialized c tests l b t

-- The test of this number detects the fault. It detects a transition fault if the line has its bit
-- under the test before and this test detects the line stuck at that bit.
abbrev pub DetectsAt : List Statement → List Test → Fault → ℕ → Type 0
DetectsAt c tests f t = (test : Test) × (slice_get tests t ≡ Some test) × Detects c test f
    × LooksBack c tests f.model f.line f.stuck t

-- two faults of one class are detected at the same numbers of every list of tests
abbrev pub ClassesDetectedSame : List Statement → Type 0
ClassesDetectedSame c = (f g : Fault) (tests : List Test) (t : ℕ) → AreEquivalent c f g
    → DetectsAt c tests f t ↔ DetectsAt c tests g t

-- a test detects a fault exactly if it detects the representative of its class
abbrev pub DetectedAsRepresentative : List Statement → Type 0
DetectedAsRepresentative c = (m : Model) (f r : Fault) (class : ℕ) (tests : List Test) (t : ℕ)
    → IsClassOf m c f class → slice_get (representatives m c) class ≡ Some r
    → DetectsAt c tests f t ↔ DetectsAt c tests r t
