use Rattle.std.proofs.Common.{◌+◌, length, reverse}
use Rattle.bench_net.specs.Marks.{pins_by, IsSearch, steps}
use Rattle.bench_net.proofs.levels.settle.Given as goal

abbrev pub invariant-loop-gate : goal.invariant-loop-gate
invariant-loop-gate l = IsSearch (pins_by l.rows) (length l.at) (l.start + 1) l.marks.items
    (reverse l.path.items)

abbrev pub decreases-loop-gate : goal.decreases-loop-gate
decreases-loop-gate l = steps (pins_by l.rows) l.marks.items (reverse l.path.items)
