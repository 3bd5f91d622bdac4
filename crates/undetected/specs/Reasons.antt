-- The reasons why no test of a list detects a fault.
use Rattle.std.specs.Prelude.{◌≡◌, ⊤, ℕ, ◌<◌, List, length, Option, Some, None, slice_get}
use Rattle.bench_net.specs.Statement.{Statement}
use Rattle.bench_net.specs.Scan.{names}
use Rattle.fault_model.specs.declared.Line.{Line}
use Rattle.fault_model.specs.declared.Line.TheVariants as line
use Rattle.fault_model.specs.declared.Model.{Model}
use Rattle.fault_model.specs.Detection.{DetectsAt}
use Rattle.fault_model.specs.Fault.{Fault, faults}
use Rattle.fault_model.specs.Solution.{Test}
use Rattle.undetected.specs.Activation.{IsActivated}
use Rattle.flat_circuit.specs.Readers.{IsLive}
use Rattle.undetected.specs.declared.Reason.{Reason}
use Rattle.undetected.specs.declared.Reason.TheVariants.{NoPath, NotActivated, NotObserved}

-- The line reaches an observer: a stem if its signal is live, a gate's pin if the gate's signal is;
-- the branches at a data pin and at an output are observed.
abbrev pub HasPath : List Statement → Line → Type 0
HasPath c (line.Stem s) = IsLive c s
HasPath c (line.Pin gate pin) = IsLive c gate
HasPath c (line.Data cell) = ⊤
HasPath c (line.Out output) = ⊤

-- The reason of a fault that no test of the list detects, the first that holds: no observer is
-- reached, no test activates the fault, or none detects it.
abbrev pub IsReason : List Statement → List Test → Fault → Reason → Type 0
IsReason c tests f NoPath = ¬ HasPath c f.line
IsReason c tests f NotActivated = HasPath c f.line × (¬ IsActivated c tests f)
IsReason c tests f NotObserved = HasPath c f.line × IsActivated c tests f
    × ((t : ℕ) → ¬ DetectsAt c tests f t)

-- with the first test that detects the fault: it has a reason if there is no such test
abbrev pub HasReason : List Statement → List Test → Fault → Option ℕ → Option Reason → Type 0
HasReason c tests f (Some t) reason = reason ≡ None
HasReason c tests f None None = ⊥
HasReason c tests f None (Some reason) = IsReason c tests f reason

-- each fault of the circuit's uncollapsed list has its reason
pub record AreReasons (m : Model) (c : List Statement) (tests : List Test)
    (firsts : List (Option ℕ)) (reasons : List (Option Reason)) : Type 0 where
  pub count : length reasons ≡ length (faults m c)
  pub each : (i : ℕ) (f : Fault) (first : Option ℕ) (reason : Option Reason)
      → slice_get (faults m c) i ≡ Some f → slice_get firsts i ≡ Some first
      → slice_get reasons i ≡ Some reason → HasReason c tests f first reason

-- the numbers of stems and of gates are numbers of signals
abbrev pub IsLineIn : List Statement → Line → Type 0
IsLineIn c (line.Stem s) = s < length (names c)
IsLineIn c (line.Pin gate pin) = gate < length (names c)
IsLineIn c (line.Data cell) = ⊤
IsLineIn c (line.Out output) = ⊤
