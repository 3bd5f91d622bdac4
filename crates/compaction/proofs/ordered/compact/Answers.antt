use Rattle.std.proofs.Common.{◌≡◌, ◌∙◌, ap, sym}
use Rattle.fault_model.specs.declared.Model.TheVariants.{Transition}
use Rattle.compaction.specs.{Compaction.IsNumbered, Steepest.IsOrdered}
use Rattle.compaction.{specs.declared.TestOrder.TheVariants.Steepest, proofs.KeptTests.ok_as}
use Rattle.compaction.proofs.OrderedTests.{transition_as}
use Rattle.compaction.proofs.ordered.compact.Goals as goal

pub returns-in-Transition-clause-ordered : goal.returns-in-Transition-clause-ordered
returns-in-Transition-clause-ordered g c =
    let job = c.args.run.now.whole in
    let model : job.list.model ≡ Transition = sym (ap (λ l. l.model)
    (c.faults.ensures.part ∙ c.job.ensures.list)) ∙ (sym c.model.ensures ∙ c.in-Transition.is) in
    rw (c.in-Steepest.is) (ok_as
    (λ k. IsNumbered job.list.model job.circuit job.tests.tests k.tests.tests k.numbers.items)
    (λ k. IsOrdered Steepest job.list.model job.circuit job.tests.tests k.tests.tests
    k.numbers.items) c.compact_as_listed-in-Transition.result
    (λ k. transition_as job.list.model job.circuit job.tests.tests k.tests.tests k.numbers.items
    model) c.compact_as_listed-in-Transition.ensures.compacted)
