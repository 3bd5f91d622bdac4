use Rattle.report.proofs.WatchedRuns.{refused_open}
use Rattle.report.proofs.text.simulate_text_with.Goals as goal

pub returns-clause-refused : goal.returns-clause-refused
returns-clause-refused g c =
    refused_open c.args.model c.args.bench.now c.args.tests.now c.args.workers
    c.simulate_text_watched.result c.simulate_text_watched.ensures.refused
