use Rattle.std.proofs.Common.{rules, ◌≡◌, subst}
use Rattle.block_sim.specs.{Flips.AreObserving, Parts.Parts}
use Rattle.faultsim_c.proofs.session.Session.observing.Goals as goal

pub returns-clause-lanes : goal.returns-clause-lanes
returns-clause-lanes c =
    let same : c.deref.result.now ≡ c.args.self.now = search rules in
    subst (λ (p : Parts). AreObserving p.circuit p.tests.tests c.args.signal c.args.block
    c.observing.result) same c.observing.ensures.lanes
