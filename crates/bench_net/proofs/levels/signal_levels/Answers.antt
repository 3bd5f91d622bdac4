use Rattle.std.proofs.Common.{◌≡◌, arith, length, map, rules}
use Rattle.bench_net.{specs.Marks.level_in, proofs.LevelSearch.settled}
use Rattle.bench_net.proofs.levels.signal_levels.Goals as goal

pub returns-clause-levels : goal.returns-clause-levels
returns-clause-levels c =
    let end : c.loop-start.start ≡ length c.args.at.now = omega (arith, c.requires.few) in
    let is : c.in_ok-collect.field-0.items ≡ map level_in c.loop-start.marks.items = search rules in
    rw is (settled (rw end at c.loop-start.invariant.0) c.requires.pins_below)
