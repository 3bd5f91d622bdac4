use Rattle.std.proofs.Common.{◌≡◌, ◌<◌, ◌≤◌, ◌+◌, ◌*◌, ◌∙◌, ap, arith, length, min}
use Rattle.std.proofs.lemmas.{List.length-map, Option.slice_get_within}
use Rattle.bench_net.specs.Scan.{observers, signal}
use Rattle.block_sim.proofs.ResponseRows.{group_more}
use Rattle.block_sim.proofs.response.add_groups.Goals as goal

pub add_lanes-requires-clause-room : goal.add_lanes-requires-clause-room
add_lanes-requires-clause-room c =
    let few = c.width-width.ensures.tests.count in
    let count = c.loop-group.invariant.rows.count in
    let low = c.loop-group-test.true in
    omega (
      arith,
      count,
      c.min-size.ensures,
      c.count.ensures,
      low,
      c.div_ceil-group-end.ensures,
      c.blocks-2.ensures,
      few,
    )

pub loop-group-preserved : goal.loop-group-preserved
loop-group-preserved c =
    let n = length c.args.tests.now.tests in
    let group = c.loop-group.group in
    let here : 128 * group < n = omega (
      arith,
      c.loop-group-test.true,
      c.div_ceil-group-end.ensures,
      c.blocks-2.ensures,
    ) in
    let size = c.min-size.result in
    let starts : min (128 * group) n ≡ 128 * group = omega (arith, here) in
    let few : size ≤ 128 = omega (arith, c.min-size.ensures) in
    let ends : min (128 * (group + 1)) n ≡ min (128 * group) n + size = omega (
      arith,
      c.min-size.ensures,
      c.count.ensures,
      here,
    ) in
    record {
      rows = group_more c.args.circuit.now.arranged c.args.tests.now.tests group
          (min (128 * group) n) (min (128 * (group + 1)) n) size
          c.loop-group.rows.tests c.add_lanes.new.rows.tests c.evaluate.new.words
          c.args.observed.now c.requires.circuit.well_formed c.evaluate.ensures.words
          c.requires.observed starts few ends c.in_ok-add_lanes.ensures.rows
          c.loop-group.invariant.rows;
      width = c.in_ok-add_lanes.ensures.width ∙ c.loop-group.invariant.width;
      words = c.evaluate.ensures.room ∙ c.loop-group.invariant.words;
    }

pub returns : goal.returns
returns c =
    let n = length c.args.tests.now.tests in
    let all : min (128 * c.loop-group.group) n ≡ n = omega (
      arith,
      c.loop-group-test.false,
      c.div_ceil-group-end.ensures,
      c.blocks-2.ensures,
    ) in
    record {
      width = c.loop-group.invariant.width ∙ (ap length c.requires.observed
          ∙ length-map (observers c.args.circuit.now.arranged)
          (λ o. signal c.args.circuit.now.arranged o.1));
      count = c.loop-group.invariant.rows.count ∙ all;
      each = λ t test v at solves. (let lt = slice_get_within c.args.tests.now.tests t test at in
          c.loop-group.invariant.rows.each t test v (omega (arith, lt, all)) at solves);
    }
