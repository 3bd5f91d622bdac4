-- The laws of the fault model, each a statement on a statement list.
use Rattle.std.specs.Prelude.{◌≡◌, ◌↔◌, ◌≢◌, ℕ, Bool, List, Contains, Option, Some, None, slice_get}
use Rattle.bench_net.specs.declared.Sink.{Sink}
use Rattle.bench_net.specs.Statement.{Name, Statement}
use Rattle.bench_net.specs.Scan.{names, observers}
use Rattle.fault_model.specs.declared.Line.{Line}
use Rattle.fault_model.specs.declared.Model.{Model}
use Rattle.fault_model.specs.declared.Model.TheVariants.{Transition, TransitionPairs}
use Rattle.fault_model.specs.Fault.{Fault, faults}
use Rattle.fault_model.specs.Solution.{Test, Solves, Detects, shows}
use Rattle.fault_model.specs.Collapse.{Represents, representatives, IsClassOf, AreEquivalent}
use Rattle.fault_model.specs.Collapse.{Collapsed, AreClassesOf}

-- under every test, fault-free and under each fault, some valuation solves
abbrev pub HasSolutions : List Statement → Type 0
HasSolutions c = (t : Test) (f : Option Fault) → (v : Name → Bool) × Solves c t f v

-- two valuations that solve give each signal the same bit
abbrev pub HasOneSolution : List Statement → Type 0
HasOneSolution c = (t : Test) (f : Option Fault) (v w : Name → Bool) (n : Name) → Solves c t f v
    → Solves c t f w → Contains (names c) n → v n ≡ w n

-- each fault of the list has a representative, which is a fault of the list, and no second one
abbrev pub HasRepresentatives : List Statement → Type 0
HasRepresentatives c = (m : Model) (f : Fault) → Contains (faults m c) f
    → (r : Fault) × Contains (faults m c) r × Represents c f r
    × ((s : Fault) → Represents c f s → s ≡ r)

-- each fault of the list has a class, and no second one
abbrev pub HasClasses : List Statement → Type 0
HasClasses c = (m : Model) (f : Fault) → Contains (faults m c) f → (k : ℕ) × IsClassOf m c f k
    × ((j : ℕ) → IsClassOf m c f j → j ≡ k)

-- two faults of one class are detected by the same tests
abbrev pub ClassesDetectSame : List Statement → Type 0
ClassesDetectSame c = (f g : Fault) (t : Test) → AreEquivalent c f g → Detects c t f ↔ Detects c t g

-- a test detects a fault exactly if it detects the representative of the fault's class
abbrev pub RepresentativesDetectSame : List Statement → Type 0
RepresentativesDetectSame c = (m : Model) (f r : Fault) (class : ℕ) (t : Test)
    → IsClassOf m c f class → slice_get (representatives m c) class ≡ Some r
    → Detects c t f ↔ Detects c t r

-- for any valuations that solve, a test detects a fault exactly if these two show different bits to
-- some observer
abbrev pub DetectionIsOfAnySolution : List Statement → Type 0
DetectionIsOfAnySolution c = (f : Fault) (t : Test) (v w : Name → Bool) → Solves c t None v
    → Solves c t (Some f) w
    → Detects c t f ↔ ((observer : Sink × Name) × Contains (observers c) observer
    × (shows None v observer ≢ shows (Some f) w observer))

-- under pairs a line slow to leave a bit has the same class as under tests in a row
abbrev pub HavePairsClassOfTransitions : List Statement → Type 0
HavePairsClassOfTransitions c = (l : Line) (b : Bool) (class : ℕ)
    → IsClassOf Transition c (record { model = Transition; line = l; stuck = b }) class
    ↔ IsClassOf TransitionPairs c (record { model = TransitionPairs; line = l; stuck = b }) class

-- and contracts see the same classes of both
abbrev pub HavePairsClassesOfTransitions : List Statement → Type 0
HavePairsClassesOfTransitions c = (classes : Collapsed)
    → AreClassesOf Transition c classes ↔ AreClassesOf TransitionPairs c classes
