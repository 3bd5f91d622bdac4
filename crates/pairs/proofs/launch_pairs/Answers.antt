use Rattle.std.proofs.{Common.{◌≡◌, ◌-◌, ◌∙◌, ap, arith, length}, lemmas.List.length-map}
use Rattle.bench_net.specs.Scan.{inputs, outputs, signal}
use Rattle.pairs.proofs.PairRows.{are_launch_pairs, observer_count, source_count}
use Rattle.pairs.proofs.launch_pairs.Goals as goal

pub overflow_sub-from-2 : goal.overflow_sub-from-2
overflow_sub-from-2 c =
    let circuit = c.args.circuit in
    let held = ap length c.inputs.ensures ∙ length-map (inputs circuit) (signal circuit) in
    omega (
      arith,
      held,
      source_count circuit,
      observer_count circuit,
      c.sources-width.ensures.count,
      c.width.ensures.width,
      c.in_ok-shown.ensures.responses.width,
    )

pub pair_rows-requires-clause-width : goal.pair_rows-requires-clause-width
pair_rows-requires-clause-width c =
    let circuit = c.args.circuit in
    let held = ap length c.inputs.ensures ∙ length-map (inputs circuit) (signal circuit) in
    omega (
      arith,
      held,
      source_count circuit,
      observer_count circuit,
      c.sources-width.ensures.count,
      c.width.ensures.width,
      c.in_ok-shown.ensures.responses.width,
      c.requires,
    )

pub returns-clause-pairs : goal.returns-clause-pairs
returns-clause-pairs c =
    let circuit = c.args.circuit in
    let held = ap length c.inputs.ensures ∙ length-map (inputs circuit) (signal circuit) in
    let from : c.width.result - (c.sources-width.result - length c.inputs.result.now)
    ≡ length (outputs circuit) = omega (
      arith,
      held,
      source_count circuit,
      observer_count circuit,
      c.sources-width.ensures.count,
      c.width.ensures.width,
      c.in_ok-shown.ensures.responses.width,
    ) in
    are_launch_pairs circuit c.args.tests.now.tests c.in_ok-pair_rows.field-0.tests
    c.in_ok-shown.shown (length c.inputs.result.now)
    (c.width.result - (c.sources-width.result - length c.inputs.result.now)) held from
    c.in_ok-shown.ensures.responses c.in_ok-pair_rows.ensures.rows
