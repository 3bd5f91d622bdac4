-- Ledgers of a job, and when they have settled its classes.
use Rattle.std.specs.Prelude.{◌≡◌, ◌<◌, ℕ, length, Option}
use Rattle.block_sim.specs.Parts.{Parts}
use Rattle.fault_ledger.specs.declared.Shape.{Shape}
use Rattle.fault_ledger.specs.History.{History}
use Rattle.fault_ledger.specs.Settled.{IsSettledAt}

-- the shape of a ledger for the classes of a job
abbrev pub shape_for : Parts → ℕ → Shape
shape_for job workers = record {
  classes = length job.classes.representative;
  tests = length job.tests.tests;
  workers = workers;
}

-- the ledger has the job's numbers of classes and tests
pub record IsShapeOf (job : Parts) (shape : Shape) : Type 0 where
  pub classes : shape.classes ≡ length job.classes.representative
  pub tests : shape.tests ≡ length job.tests.tests

-- each class below n is settled
abbrev pub AreSettled : Shape → History → ℕ → Type 0
AreSettled shape h n = (class : ℕ) → class < n → (at : Option ℕ) × IsSettledAt shape h class at
