use Rattle.std.{proofs.Common.{◌≡◌, ◌∙◌, ap, map}, specs.Prelude.Some}
use Rattle.test_columns.{specs.Columns.names_in, proofs.Named.passed_refused}
use Rattle.test_columns.proofs.Named.{columns_are, if_err, names_fault, on_ok, passed_names}
use Rattle.test_columns.proofs.check_columns.Goals as goal

pub returns-in-Ok-clause-passed : goal.returns-in-Ok-clause-passed
returns-in-Ok-clause-passed c =
    let circuit = c.in-Ok.circuit in
    let names = map (λ name. name.now) c.deref.result.now in
    let named : Some names ≡ names_in c.in-Some.line.bytes.now =
    ap (λ l. Some (map (λ name. name.now) l)) c.deref.ensures.value
    ∙ rw c.in-Some-2.is at c.in_ok-names.ensures in
    let is = columns_are c.args.tests.now c.in-Some.line.bytes.now c.in-Some.line.number names
    c.in-Some.ensures named in
    on_ok c.compare_names.result c.compare_names.ensures.same
    (passed_names c.args.bench.now c.args.tests.now circuit
    (record { line = c.in-Some.line.number; names = names })
    (λ d accepted. c.one_answer.ensures.one_circuit c.args.bench.now d circuit accepted
    c.in-Ok.ensures.accepted) is)

pub returns-in-Ok-clause-refused : goal.returns-in-Ok-clause-refused
returns-in-Ok-clause-refused c =
    let circuit = c.in-Ok.circuit in
    let names = map (λ name. name.now) c.deref.result.now in
    let named : Some names ≡ names_in c.in-Some.line.bytes.now =
    ap (λ l. Some (map (λ name. name.now) l)) c.deref.ensures.value
    ∙ rw c.in-Some-2.is at c.in_ok-names.ensures in
    let is = columns_are c.args.tests.now c.in-Some.line.bytes.now c.in-Some.line.number names
    c.in-Some.ensures named in
    if_err c.compare_names.result c.compare_names.ensures.refused
    (λ f. names_fault c.args.bench.now c.args.tests.now circuit
    (record { line = c.in-Some.line.number; names = names }) f c.in-Ok.ensures.accepted is)

pub returns-clause-passed : goal.returns-clause-passed
returns-clause-passed c = on_ok c.without_circuit.result c.without_circuit.ensures.passed
    (passed_refused c.args.bench.now c.args.tests.now c.in-Err.fault c.in-Err.ensures.refused
    (λ d f. c.one_answer.ensures.not_both c.args.bench.now d f))
