use Rattle.workers.proofs.ClosedLedgers.{back_placed, closed_waiting, closed_run}
use Rattle.workers.proofs.piece_threads.run_over.Goals as goal

pub close_ledger-requires-clause-places : goal.close_ledger-requires-clause-places
close_ledger-requires-clause-places g c = back_placed c.args.job.now c.in_ok-ledger.ledger
    (g.G.Gate.passing c.args.gate.now) (g.G.Gate.stops c.args.gate.now) c.in_ok-seats.seats.items
    c.in_ok-seats.ensures.back

pub returns-in-Waiting-clause-refused : goal.returns-in-Waiting-clause-refused
returns-in-Waiting-clause-refused g c =
    let job = c.args.job.now in
    let r = closed_waiting c.args.job.now c.args.workers
    c.in_ok-ledger.ledger (g.G.Gate.passing c.args.gate.now) (g.G.Gate.stops c.args.gate.now)
    c.in_ok-seats.seats.items c.in_ok-closed.closed
    c.in_ok-ledger.ensures.ledger c.requires.workers.0 c.in_ok-seats.ensures.back
    c.in_ok-closed.ensures.closed
    c.in-Waiting.class c.in-Waiting.block c.in-Waiting.ensures.finish in
    (c.requires.workers.0, c.requires.workers.1, r.0, r.1, r.2, r.3)

pub returns-clause-run : goal.returns-clause-run
returns-clause-run g c = closed_run c.args.job.now c.args.workers
    c.in_ok-ledger.ledger (g.G.Gate.passing c.args.gate.now) (g.G.Gate.stops c.args.gate.now)
    c.in_ok-seats.seats.items c.in_ok-closed.closed
    c.in_ok-ledger.ensures.ledger c.requires.workers.0 c.in_ok-seats.ensures.back
    c.in_ok-closed.ensures.closed c.in_default.ensures.finish
