use Rattle.std.proofs.Common.{List, refl, subst}
use Rattle.bench_net.specs.Statement.{Statement}
use Rattle.faultsim_c.specs.Circuits.{AreLevelsOf}
use Rattle.faultsim_c.proofs.circuit.levels_in.Goals as goal

pub returns-clause-done : goal.returns-clause-done
returns-clause-done c = λ fits. (
  refl,
  subst (λ (x : List Statement). AreLevelsOf x c.fill_levels.new.levels)
      c.circuit-circuit.ensures.part c.fill_levels.ensures,
)
