use Rattle.std.proofs.{Common.{◌<◌, ap, arith, length, refl, subst}, lemmas.Option.slice_get_read}
use Rattle.bench_net.specs.Scan.{names}
use Rattle.flat_circuit.specs.Regions.{IsStemOfClass}
use Rattle.block_sim.proofs.PartsOfJobs.{whole, seen}
use Rattle.block_sim.proofs.job.Job.stem_of_class.Goals as goal

pub returns-clause-stem : goal.returns-clause-stem
returns-clause-stem c =
    let own = c.deref-parts.result.now in
    let job = whole c.deref-parts.ensures c.self.invariant in
    let view = seen c.deref-parts.ensures c.self.view_is in
    let within : c.args.class < length own.class_stems.items = omega (
      arith,
      job.stem_count,
      ap (λ p. length p.classes.representative) view,
      c.requires,
    ) in
    let stem = job.stems c.args.class c.index.result.now
    (slice_get_read own.class_stems.items (length own.class_stems.items) c.args.class
    c.index.result.now refl within c.index.ensures) in
    subst (λ p. IsStemOfClass p.list.model p.circuit c.args.class c.index.result.now) view stem.1

pub returns-clause-within : goal.returns-clause-within
returns-clause-within c =
    let own = c.deref-parts.result.now in
    let job = whole c.deref-parts.ensures c.self.invariant in
    let view = seen c.deref-parts.ensures c.self.view_is in
    let within : c.args.class < length own.class_stems.items = omega (
      arith,
      job.stem_count,
      ap (λ p. length p.classes.representative) view,
      c.requires,
    ) in
    let stem = job.stems c.args.class c.index.result.now
    (slice_get_read own.class_stems.items (length own.class_stems.items) c.args.class
    c.index.result.now refl within c.index.ensures) in
    subst (λ p. c.index.result.now < length (names p.circuit)) view stem.0
