use Rattle.std.{specs.Prelude.map, proofs.lemmas.Result.IfOk-weaker}
use Rattle.flat_circuit.{specs.GroupRows.{AreRowsFrom, AreFaultFree}, proofs.Rows.from_first}
use Rattle.flat_circuit.proofs.fault_free.fault_free_rows.Goals as goal

pub returns-clause-rows : goal.returns-clause-rows
returns-clause-rows c =
    let circuit = c.args.circuit.now.arranged in
    let tests = c.args.tests.now.tests in
    IfOk-weaker c.rows_between.result
    (λ rows. AreRowsFrom circuit tests 0 (map (λ row. row.items) rows.items))
    (λ rows. AreFaultFree circuit tests (map (λ row. row.items) rows.items))
    (λ rows are. from_first circuit tests (map (λ row. row.items) rows.items) are)
    c.rows_between.ensures.rows
