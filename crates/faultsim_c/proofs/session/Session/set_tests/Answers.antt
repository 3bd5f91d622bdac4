use Rattle.faultsim_c.proofs.ListsOfJobs.{stays_fit}
use Rattle.faultsim_c.proofs.session.Session.set_tests.Goals as goal

pub invariant_of-self : goal.invariant_of-self
invariant_of-self c = stays_fit c.self.inside.workspace _ _ _ _ _ c.replace_tests.ensures.done
    c.replace_tests.ensures.kept c.self.invariant
