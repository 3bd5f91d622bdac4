use Rattle.workers.proofs.ClosedLedgers.{run_settled, run_firsts}
use Rattle.workers.proofs.piece_threads.run.Goals as goal

pub verdicts_of-requires-clause-settled : goal.verdicts_of-requires-clause-settled
verdicts_of-requires-clause-settled g c =
    let closed = c.in_ok-closed.closed in
    let run = c.in_ok-closed.ensures.run in
    (run.history, run.legal, run.shows, run_settled c.args.job.now c.args.workers closed run)

pub returns-clause-firsts : goal.returns-clause-firsts
returns-clause-firsts g c =
    let closed = c.in_ok-closed.closed in
    let run = c.in_ok-closed.ensures.run in
    run_firsts c.args.job.now c.args.workers closed run c.in_ok-verdicts.verdicts.firsts
    c.faults.ensures.together c.in_ok-verdicts.ensures.firsts
