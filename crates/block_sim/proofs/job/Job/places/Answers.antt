use Rattle.std.proofs.Common.{◌∙◌, ap, length, subst}
use Rattle.bench_net.specs.Scan.{names}
use Rattle.flat_circuit.specs.Arranged.{ArePlaces, IsArranged}
use Rattle.block_sim.proofs.PartsOfJobs.{seen}
use Rattle.block_sim.proofs.job.Job.places.Goals as goal

pub returns-clause-count : goal.returns-clause-count
returns-clause-count c =
    let view = seen c.deref-parts.ensures c.self.view_is in
    c.places.ensures.count ∙ ap (λ p. length (names p.circuit)) view

pub returns-clause-places : goal.returns-clause-places
returns-clause-places c =
    let own = c.deref-parts.result.now in
    let view = seen c.deref-parts.ensures c.self.view_is in (
      own.flat.arranged,
      subst (λ p. IsArranged p.circuit own.flat.arranged) view c.places.ensures.arranged,
      subst (λ p. ArePlaces p.circuit own.flat.arranged c.places.result.now) view
          c.places.ensures.places,
    )
