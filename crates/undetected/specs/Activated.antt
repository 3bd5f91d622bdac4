-- What is known of the activation of faults while their reasons are found.
use Rattle.std.specs.Prelude.{◌≡◌, ◌↔◌, ◌⊎◌, ◌+◌, ◌*◌, ◌<◌, ◌≤◌, ℕ, Bool, true, false, List, length}
use Rattle.std.specs.Prelude.{Some, IsTrue, if◌then◌else◌, nat_lt, slice_get}
use Rattle.bench_net.specs.Scan.{names}
use Rattle.bench_net.specs.Statement.{Statement}
use Rattle.fault_model.specs.declared.Line.TheVariants as line
use Rattle.fault_model.specs.declared.Model.{Model}
use Rattle.fault_model.specs.Fault.{Fault}
use Rattle.fault_model.specs.Solution.{Test}
use Rattle.undetected.specs.Activation.{ActivatesAt, IsActivated}
use Rattle.block_sim.specs.Parts.{Parts}
use Rattle.undetected.specs.declared.activations.Activations.{Activations}

-- the fault of a bit on the stem of a signal
abbrev pub stem_fault : Model → ℕ → Bool → Fault
stem_fault m s bit = record { model = m; line = line.Stem s; stuck = bit }

-- some test of the block activates the fault
abbrev pub IsActivatedIn : List Statement → List Test → Fault → ℕ → Type 0
IsActivatedIn c tests f block = (t : ℕ) × (64 * block ≤ t) × (t < 64 * (block + 1))
    × ActivatesAt c tests f t

-- some test of the group of two blocks activates the fault
abbrev pub IsActivatedInGroup : List Statement → List Test → Fault → ℕ → Type 0
IsActivatedInGroup c tests f group = (t : ℕ) × (128 * group ≤ t) × (t < 128 * (group + 1))
    × ActivatesAt c tests f t

-- each flag is set if it was, or if a test of the job before a number of the signal's own activates
-- the fault of the bit on the signal's stem
abbrev pub AreAddedBefore : Parts → Bool → List Bool → (ℕ → ℕ) → List Bool → Type 0
AreAddedBefore job bit start end flags = (s : ℕ) (old flag : Bool) → slice_get start s ≡ Some old
    → slice_get flags s ≡ Some flag → IsTrue flag ↔ (IsTrue old ⊎ ((t : ℕ) × (t < end s)
    × ActivatesAt job.circuit job.tests.tests (stem_fault job.list.model s bit) t))

-- the number up to which tests were added for a signal, within a group, if those of the signals
-- before a number were added
abbrev pub end_at : ℕ → ℕ → ℕ → ℕ
end_at group signal s = if nat_lt s signal then 128 * (group + 1) else 128 * group

-- each flag is set if it was, or if some test of the job activates the fault of the bit on the stem
abbrev pub AreAdded : Parts → Bool → List Bool → List Bool → Type 0
AreAdded job bit start flags = (s : ℕ) (old flag : Bool) → slice_get start s ≡ Some old
    → slice_get flags s ≡ Some flag → IsTrue flag ↔ (IsTrue old
    ⊎ IsActivated job.circuit job.tests.tests (stem_fault job.list.model s bit))

-- the flag of each signal says whether a test below a number activates the fault of the bit on its
-- stem
abbrev pub AreActivatedBelow : Parts → Bool → ℕ → List Bool → Type 0
AreActivatedBelow job bit end flags = (s : ℕ) (flag : Bool) → slice_get flags s ≡ Some flag
    → IsTrue flag ↔ ((t : ℕ) × (t < end)
    × ActivatesAt job.circuit job.tests.tests (stem_fault job.list.model s bit) t)

-- the flag of each signal says whether some test activates the fault of the bit on its stem
abbrev pub AreActivated : Parts → Bool → List Bool → Type 0
AreActivated job bit flags = (s : ℕ) (flag : Bool) → slice_get flags s ≡ Some flag
    → IsTrue flag
    ↔ IsActivated job.circuit job.tests.tests (stem_fault job.list.model s bit)

-- the flags of both bits, one for each signal
pub record AreActivations (job : Parts) (known : Activations) : Type 0 where
  pub zero_room : length known.at_zero.items ≡ length (names job.circuit)
  pub one_room : length known.at_one.items ≡ length (names job.circuit)
  pub at_zero : AreActivated job false known.at_zero.items
  pub at_one : AreActivated job true known.at_one.items

-- so they say of the tests below a number
pub record AreActivationsBelow (job : Parts) (end : ℕ) (known : Activations) : Type 0 where
  pub zero_room : length known.at_zero.items ≡ length (names job.circuit)
  pub one_room : length known.at_one.items ≡ length (names job.circuit)
  pub at_zero : AreActivatedBelow job false end known.at_zero.items
  pub at_one : AreActivatedBelow job true end known.at_one.items
