use Rattle.bench_net.proofs.StuckSets.{none_stuck, numbering}
use Rattle.bench_net.proofs.numbered_or_stuck.Goals as goal

pub returns : goal.returns
returns c = record { numbered_not_stuck = none_stuck; not_stuck_numbered = numbering }
