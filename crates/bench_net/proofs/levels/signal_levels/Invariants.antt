use Rattle.std.proofs.Common.{◌≡◌, [], length}
use Rattle.bench_net.specs.Marks.{pins_by, IsSearch}
use Rattle.bench_net.proofs.levels.signal_levels.Given as goal

abbrev pub invariant-loop-start : goal.invariant-loop-start
invariant-loop-start l =
    IsSearch (pins_by l.rows) (length l.at) l.start l.marks.items [] × (l.path.items ≡ [])
