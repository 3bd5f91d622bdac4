-- The job of a circuit under a model.
use Rattle.std.specs.Prelude.{◌≡◌, List}
use Rattle.bench_net.specs.Statement.{Statement}
use Rattle.fault_model.specs.declared.Model.{Model}
use Rattle.patterns.specs.Tests.{TestList}
use Rattle.block_sim.specs.Parts.{Parts, BelongTogether}

-- the job of a circuit and of tests under a model
abbrev pub IsJobUnder : Model → List Statement → TestList → Parts → Type 0
IsJobUnder m c tests job =
    (job.circuit ≡ c) × (job.tests ≡ tests) × BelongTogether job × (job.list.model ≡ m)
