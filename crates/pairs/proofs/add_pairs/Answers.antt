use Rattle.std.proofs.Common.{◌++◌, [], drop, get_or, refl, take, ◌∙◌}
use Rattle.pairs.proofs.PairRows.{rows_more}
use Rattle.pairs.proofs.add_pairs.Goals as goal

pub loop-test-preserved : goal.loop-test-preserved
loop-test-preserved c =
    let tests = c.args.tests.now.tests in
    let shown = c.args.shown.now.tests in
    let test = c.loop-test.test in
    record {
      rows = rows_more tests shown c.args.held c.args.from test c.loop-test.pairs.tests
          c.add_pair.new.pairs.tests (get_or tests test [])
          (take c.args.held (get_or tests test []) ++ drop c.args.from (get_or shown test []))
          c.loop-test.invariant.rows refl refl c.in_ok-add_pair.ensures.rows;
      width = c.in_ok-add_pair.ensures.width ∙ c.loop-test.invariant.width;
    }
