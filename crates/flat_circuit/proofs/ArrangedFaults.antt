-- The faults of a circuit, moved to the circuit with its statements in the order of their places.
use Rattle.std.{proofs.Common.{◌≡◌, ◌∙◌, ap, subst, List}, specs.Prelude.{Contains, Some}}
use Rattle.bench_net.specs.{Statement.{Name, Statement}, Scan.{names, signal}}
use Rattle.bench_net.specs.Circuit.{IsCircuit, IsWellFormed}
use Rattle.fault_model.specs.{declared.Model.Model, Detection.name_on, Fault.{Fault, faults}}
use Rattle.fault_model.specs.Reordered.{moved_fault, moved_line}
use Rattle.fault_model.proofs.Public.{carries, circuit_reordered, same_sinks}
use Rattle.flat_circuit.specs.declared.{origin.Origin.Origin, words.Stuck.Stuck}
use Rattle.flat_circuit.specs.{Arranged.IsArranged, Origins.{IsStuckOf, Starts}, Stuck.stuck_fault}
use Rattle.flat_circuit.proofs.ArrangedSignals.{reordered, well_there}

pub circuit_there : (c d : List Statement) → IsCircuit c → IsArranged c d → IsCircuit d
circuit_there c d is arranged =
    circuit_reordered c d (reordered c d is.well_formed arranged).statements is

-- a fault of the circuit is on a line that carries a name
pub carried_name : (c : List Statement) (f : Fault) (stuck : Stuck) → IsWellFormed c
    → IsStuckOf c f stuck → (n : Name) × (name_on c stuck.line ≡ Some n)
carried_name c f stuck well stands =
    let named = carries f.model c f well stands.listed in
    let line : stuck.line ≡ f.line = ap (λ (x : Fault). x.line) stands.is in
    (named.0, ap (name_on c) line ∙ named.1)

-- a fault that moves between lists of statements moves between equal lists
pub moved_there : (c d own : List Statement) (f : Fault) (stuck moved : Stuck) → own ≡ c
    → stuck_fault moved ≡ moved_fault own d (stuck_fault stuck) → stuck_fault stuck ≡ f
    → stuck_fault moved ≡ moved_fault c d f
moved_there c d own f stuck moved same is stands =
    is ∙ (ap (λ x. moved_fault x d (stuck_fault stuck)) same ∙ ap (moved_fault c d) stands)

pub starts_there : (c d own : List Statement) (stuck : Stuck) (origin : Origin) → own ≡ c
    → ((f : Fault) → IsStuckOf own f stuck → Starts own d f origin)
    → (f : Fault) → IsStuckOf c f stuck → Starts c d f origin
starts_there c d own stuck origin same starts =
    subst (λ x. (f : Fault) → IsStuckOf x f stuck → Starts x d f origin) same starts

module _ (c d : List Statement) (well : IsWellFormed c) (arranged : IsArranged c d) where
  -- a fault of the list moves to a fault of the list of the second circuit
  pub listed_there : (m : Model) (f : Fault) → Contains (faults m c) f
      → Contains (faults m d) (moved_fault c d f)
  listed_there m f listed = (same_sinks c d well (reordered c d well arranged)).listed m f listed

  -- and its line carries a name in the second circuit
  pub carries_there : (m : Model) (f : Fault) → Contains (faults m c) f
      → (n : Name) × (name_on d (moved_line c d f.line) ≡ Some n) × Contains (names d) n
  carries_there m f listed =
      carries m d (moved_fault c d f) (well_there c d well arranged) (listed_there m f listed)

-- the signal of the line, and its number in the second circuit
pub carried_is : (c d : List Statement) (f : Fault) (origin : Origin) → IsWellFormed c
    → IsArranged c d → Starts c d f origin
    → (n : Name) × (name_on d (moved_line c d f.line) ≡ Some n) × Contains (names d) n
    × (origin.carried ≡ signal d n)
carried_is c d f origin well arranged starts =
    let named = carries_there c d well arranged f.model f starts.listed in
    let line : origin.fault.line ≡ moved_line c d f.line =
    ap (λ (x : Fault). x.line) starts.moved in (
      named.0,
      named.1,
      named.2,
      starts.carried named.0 (ap (name_on d) line ∙ named.1),
    )
