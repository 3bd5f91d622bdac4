use Rattle.std.proofs.Common.{◌≡◌, ◌≤◌, ◌+◌, Bool, arith, false, subst, sym, true}
use Rattle.std.specs.Prelude.{if◌then◌else◌}
use Rattle.blocking_pins.specs.{Blocking.HaveCount, Blocking.HaveCount.none, Counting.HasBit}
use Rattle.blocking_pins.proofs.{Counts.count_next, VecRows.rows_of}
use Rattle.blocking_pins.proofs.pins.tests_of.Goals as goal

pub loop-test-init : goal.loop-test-init
loop-test-init c = record { count = none; few = omega arith }

bit_le : (b : Bool) → (if b then 1 else 0) ≤ 1
bit_le true = omega arith
bit_le false = omega arith

pub loop-test-preserved : goal.loop-test-preserved
loop-test-preserved c =
    let rows = rows_of c.args.tally.now.rows.items in
    let is = c.bit_of-tests.ensures in
    let low = bit_le c.blocks_under.result in
    record {
      count = subst (λ n. HaveCount (HasBit rows c.args.at) (c.loop-test.test + 1)
          (c.loop-test.tests + n)) (sym is)
          (count_next (HasBit rows c.args.at) c.loop-test.test c.loop-test.tests
          c.blocks_under.result c.loop-test.invariant.count c.blocks_under.ensures.0
          c.blocks_under.ensures.1);
      few = omega (arith, is, low, c.loop-test.invariant.few);
    }
