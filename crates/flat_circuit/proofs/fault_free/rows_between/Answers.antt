use Rattle.std.proofs.Common.{◌∙◌, ◌+◌, ◌-◌, ◌*◌, ◌/◌, ℕ, ap, arith, Global, length, length-append}
use Rattle.std.{proofs.Common.{subst, sym, Vec}, specs.Prelude.map, proofs.lemmas.List.map-append}
use Rattle.flat_circuit.{specs.GroupRows.AreRowsFrom, proofs.Rows.rows_joined}
use Rattle.flat_circuit.proofs.fault_free.rows_between.Goals as goal

pub loop-four-preserved : goal.loop-four-preserved
loop-four-preserved c =
    let circuit = c.args.circuit.now.arranged in
    let tests = c.args.tests.now.tests in
    let items = λ (row : Vec ℕ Global). row.items in
    let was = c.loop-four.invariant in
    let before = map items c.loop-four.rows.items in
    let more = map items c.in_ok-more.more.items in
    let whole = ap (map items) c.in_ok-append.ensures.items
    ∙ map-append items c.loop-four.rows.items c.in_ok-more.more.items in
    record {
      count = omega (
        arith,
        ap length whole,
        length-append before more,
        was.count,
        c.in_ok-more.ensures.count,
      );
      rows = subst (AreRowsFrom circuit tests c.args.first) (sym whole)
          (rows_joined circuit tests c.args.first before more
          (c.args.first + 4 * c.loop-four.four) was.rows (omega (arith, was.count))
          c.in_ok-more.ensures.rows);
    }

pub returns-clause-rows : goal.returns-clause-rows
returns-clause-rows c =
    let circuit = c.args.circuit.now.arranged in
    let tests = c.args.tests.now.tests in
    let items = λ (row : Vec ℕ Global). row.items in
    let was = c.loop-four.invariant in
    let before = map items c.loop-four.rows.items in
    let more = map items c.in_ok-rest.rest.items in
    let whole = ap (map items) c.in_ok-append-2.ensures.items
    ∙ map-append items c.loop-four.rows.items c.in_ok-rest.rest.items in
    subst (AreRowsFrom circuit tests c.args.first) (sym whole)
    (rows_joined circuit tests c.args.first before more
    (c.args.first + 4 * ((c.args.end - c.args.first) / 4)) was.rows
    (omega (arith, was.count, c.loop-four-test.false, c.loop-four.auto.four-end))
    c.in_ok-rest.ensures.rows)
