use Rattle.std.proofs.{Common.{◌∙◌, ap, length, map, subst, sym}, lemmas.List.length-map}
use Rattle.flat_circuit.specs.{Arranged.IsArranged, GroupRows.AreFaultFree, BlockSpans.groups}
use Rattle.block_sim.proofs.PartsOfJobs.{seen, whole}
use Rattle.block_sim.proofs.job.Job.words.Goals as goal

pub returns-clause-arranged : goal.returns-clause-arranged
returns-clause-arranged c =
    let own = c.deref-parts.result.now in
    let view = seen c.deref-parts.ensures c.self.view_is in
    subst (λ p. IsArranged p.circuit own.flat.arranged) view c.signals-signals.ensures.arranged

pub returns-clause-count : goal.returns-clause-count
returns-clause-count c =
    let own = c.deref-parts.result.now in
    let job = whole c.deref-parts.ensures c.self.invariant in
    let view = seen c.deref-parts.ensures c.self.view_is in
    ap length c.as_slice.ensures.value ∙ (sym (length-map own.rows.items (λ row. row.items))
    ∙ (job.count ∙ ap (λ p. groups (length p.tests.tests)) view))

pub returns-clause-fault_free : goal.returns-clause-fault_free
returns-clause-fault_free c =
    let own = c.deref-parts.result.now in
    let job = whole c.deref-parts.ensures c.self.invariant in
    let view = seen c.deref-parts.ensures c.self.view_is in
    subst (λ rows. AreFaultFree own.flat.arranged c.args.self.now.tests.tests
    (map (λ row. row.items) rows)) (sym c.as_slice.ensures.value)
    (subst (λ p. AreFaultFree own.flat.arranged p.tests.tests
    (map (λ row. row.items) own.rows.items)) view job.fault_free)
