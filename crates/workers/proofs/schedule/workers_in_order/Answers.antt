use Rattle.std.proofs.Common.{ap, ◌∙◌, ◌++◌, ◌∷◌, []}
use Rattle.workers.proofs.MoveLists.{below_last}
use Rattle.workers.proofs.schedule.workers_in_order.Goals as goal

pub loop-worker-preserved : goal.loop-worker-preserved
loop-worker-preserved c =
    c.in_ok-push.ensures.items ∙ ap (λ xs. xs ++ c.loop-worker.worker ∷ []) c.loop-worker.invariant
    ∙ below_last c.loop-worker.worker
