-- The start of the simulation of a class.
use Rattle.std.specs.Prelude.{◌≡◌, ℕ, List, Contains, Some, slice_get}
use Rattle.bench_net.specs.Statement.{Name, Statement}
use Rattle.bench_net.specs.Scan.{signal}
use Rattle.fault_model.specs.declared.Line.{Line}
use Rattle.fault_model.specs.declared.Model.{Model}
use Rattle.fault_model.specs.Collapse.{representatives}
use Rattle.fault_model.specs.Detection.{name_on}
use Rattle.fault_model.specs.Fault.{Fault, faults}
use Rattle.fault_model.specs.Reordered.{moved_fault}
use Rattle.flat_circuit.specs.declared.origin.Origin.{Origin}
use Rattle.flat_circuit.specs.declared.words.Stuck.{Stuck}
use Rattle.flat_circuit.specs.Stuck.{stuck_fault}

-- the line carries the signal of this number
abbrev pub Carries : List Statement → Line → ℕ → Type 0
Carries c line s = (n : Name) → name_on c line ≡ Some n → s ≡ signal c n

-- the stuck-at fault belongs to this fault of the circuit
pub record IsStuckOf (c : List Statement) (f : Fault) (stuck : Stuck) : Type 0 where
  pub listed : Contains (faults f.model c) f
  pub is : stuck_fault stuck ≡ f

-- The start of the simulation of a fault in a circuit with the same statements in another order:
-- the moved fault, and the signal that its line carries there.
pub record Starts (c d : List Statement) (f : Fault) (origin : Origin) : Type 0 where
  pub listed : Contains (faults f.model c) f
  pub moved : stuck_fault origin.fault ≡ moved_fault c d f
  pub carried : Carries d origin.fault.line origin.carried

-- the stuck-at fault belongs to a class's representative
abbrev pub IsRepresentativeIn : Model → List Statement → ℕ → Stuck → Type 0
IsRepresentativeIn m c class stuck = (r : Fault)
    × (slice_get (representatives m c) class ≡ Some r) × IsStuckOf c r stuck

-- a list has the representatives of the first classes
abbrev pub HaveRepresentatives : Model → List Statement → List Stuck → Type 0
HaveRepresentatives m c stucks = (class : ℕ) (stuck : Stuck) → slice_get stucks class ≡ Some stuck
    → IsRepresentativeIn m c class stuck
