use Rattle.std.proofs.{Common.{◌≡◌, ◌∙◌}, lemmas.Result.err_from_is_err_and}
use Rattle.patterns.specs.Making.{test_text}
use Rattle.analysis_reports.proofs.ResponseTexts.{input_fault}
use Rattle.analysis_reports.proofs.responses.responses_text.Goals as goal

pub responses-requires : goal.responses-requires
responses-requires g c = c.in_ok-circuit.ensures.fit.width

pub returns-in_err-circuit-clause-refused : goal.returns-in_err-circuit-clause-refused
returns-in_err-circuit-clause-refused g c =
    let p = err_from_is_err_and c.from_residual.result c.from_residual.ensures.1 in
    rw (p.1, p.2) (input_fault c.args.bench.now c.args.tests.now _ c.in_err-circuit.ensures.refused)

pub returns-in_err-put_text-clause-written : goal.returns-in_err-put_text-clause-written
returns-in_err-put_text-clause-written g c =
    let p = err_from_is_err_and c.from_residual-in_err-put_text.result
    c.from_residual-in_err-put_text.ensures.1 in
    let rows = c.in_ok-rows.rows in
    let same : c.deref.result.now ≡ test_text rows.tests = c.deref.ensures.value
    ∙ c.in_ok-text.ensures.text in
    rw (p.1, p.2) (
      c.deref.result.now,
      (
        c.in_ok-circuit.circuit,
        c.in_ok-circuit.tests,
        rows,
        c.in_ok-circuit.ensures.circuit,
        c.in_ok-circuit.ensures.tests,
        c.in_ok-rows.ensures.responses,
        same,
      ),
      c.in_err-put_text.ensures,
    )

pub returns-clause-written : goal.returns-clause-written
returns-clause-written g c =
    let rows = c.in_ok-rows.rows in
    let same : c.deref.result.now ≡ test_text rows.tests = c.deref.ensures.value
    ∙ c.in_ok-text.ensures.text in (
      c.deref.result.now,
      (
        c.in_ok-circuit.circuit,
        c.in_ok-circuit.tests,
        rows,
        c.in_ok-circuit.ensures.circuit,
        c.in_ok-circuit.ensures.tests,
        c.in_ok-rows.ensures.responses,
        same,
      ),
      c.in_ok-put_text.ensures,
    )
