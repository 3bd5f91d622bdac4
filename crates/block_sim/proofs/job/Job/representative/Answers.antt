use Rattle.std.proofs.{Common.{◌<◌, ap, arith, length, refl, subst}, lemmas.Option.slice_get_read}
use Rattle.block_sim.{specs.Listed.IsRepresentativeOf, proofs.PartsOfJobs.{whole, seen}}
use Rattle.block_sim.proofs.job.Job.representative.Goals as goal

pub returns : goal.returns
returns c =
    let own = c.deref-parts.result.now in
    let job = whole c.deref-parts.ensures c.self.invariant in
    let view = seen c.deref-parts.ensures c.self.view_is in
    let within : c.args.class < length own.representatives.items = omega (
      arith,
      job.stuck_count,
      ap (λ p. length p.classes.representative) view,
      c.requires,
    ) in
    let stands = job.stucks_are c.args.class c.index.result.now
    (slice_get_read own.representatives.items (length own.representatives.items) c.args.class
    c.index.result.now refl within c.index.ensures) in
    subst (λ p. IsRepresentativeOf p c.args.class c.index.result.now) view stands
