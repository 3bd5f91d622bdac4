use Rattle.std.proofs.{Common.{◌∙◌, ap, subst, sym}, lemmas.Bool.{false≢true, not-true}}
use Rattle.fault_model.specs.Reordered.{place}
use Rattle.flat_circuit.specs.{Arranged.IsArranged, Readers.IsLive}
use Rattle.block_sim.{specs.Parts.BelongTogether, proofs.DeadRegions.dead_class}
use Rattle.block_sim.proofs.PartsOfJobs.{seen, whole}
use Rattle.block_sim.proofs.job.Job.is_dead.Goals as goal

pub returns : goal.returns
returns c = λ dead span.
    let own = c.deref-parts.result.now in
    let there = own.flat.arranged in
    let job = whole c.deref-parts.ensures c.self.invariant in
    let view = seen c.deref-parts.ensures c.self.view_is in
    let at = c.place_of-stem.ensures.place ∙ ap (λ p. place p.circuit there c.args.row.stem) view in
    dead_class c.args.self.now there (subst BelongTogether view job.together)
    (subst (λ p. IsArranged p.circuit there) view c.signals-signals.ensures.arranged)
    c.args.row c.requires (λ live. false≢true (sym (not-true _ dead)
    ∙ c.is_live.ensures.1 (subst (IsLive there) (sym at) live))) span
