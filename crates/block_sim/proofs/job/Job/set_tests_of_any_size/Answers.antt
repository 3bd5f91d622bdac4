use Rattle.std.proofs.Common.{◌∙◌, ap, length, map, subst, sym}
use Rattle.bench_net.specs.Scan.{sources}
use Rattle.flat_circuit.specs.GroupRows.{AreFaultFree}
use Rattle.block_sim.{specs.declared.job.JobParts.JobParts, proofs.PartsOfJobs.{seen, taken, whole}}
use Rattle.block_sim.proofs.job.Job.set_tests_of_any_size.Goals as goal

pub invariant_of-self : goal.invariant_of-self
invariant_of-self c =
    let own = c.deref_mut.result.now in
    let same = c.deref_mut.ensures.value in
    let rows = c.in_ok-rows.rows in
    taken own c.take_tests.new.self c.args.tests rows c.take_tests.ensures
    (whole same c.self.invariant) c.requires.tests
    (c.requires.width ∙ ap (λ p. length (sources p.circuit)) (sym (seen same c.self.view_is)))
    c.in_ok-rows.ensures.count
    (subst (λ (p : JobParts). AreFaultFree p.flat.arranged c.args.tests.tests
    (map (λ row. row.items) rows.items)) (c.deref.ensures ∙ sym same) c.in_ok-rows.ensures.rows)
