use Rattle.std.proofs.{Common.{[], get_or}, lemmas.Option.slice_get-get_or}
use Rattle.bench_net.specs.Scan.{names}
use Rattle.fault_model.proofs.ListedFaults.{stem_listed}
use Rattle.fault_model.proofs.laws.stems.Goals as goal

pub returns : goal.returns
returns goal m c signal stuck below = stem_listed m c signal (get_or (names c) signal []) stuck
    (slice_get-get_or (names c) signal [] below)
