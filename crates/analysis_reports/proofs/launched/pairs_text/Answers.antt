use Rattle.std.proofs.{Common.{◌≤◌, arith, length}, lemmas.Result.err_from_is_err_and}
use Rattle.analysis_reports.proofs.LaunchedPairs.{pairs_input_fault, pairs_made}
use Rattle.analysis_reports.proofs.launched.pairs_text.Goals as goal

pub launch_pairs-requires : goal.launch_pairs-requires
launch_pairs-requires g c = c.in_ok-circuit.ensures.fit.width

pub returns-in_err-circuit-clause-refused : goal.returns-in_err-circuit-clause-refused
returns-in_err-circuit-clause-refused g c =
    let p = err_from_is_err_and c.from_residual.result c.from_residual.ensures.1 in
    rw (p.1, p.2) (pairs_input_fault c.args.bench.now c.args.tests.now _
    c.in_err-circuit.ensures.refused)

pub returns-in_err-put_text-clause-written : goal.returns-in_err-put_text-clause-written
returns-in_err-put_text-clause-written g c =
    let p = err_from_is_err_and c.from_residual-in_err-put_text.result
    c.from_residual-in_err-put_text.ensures.1 in
    let bench = c.args.bench.now in
    let accepted = c.in_ok-circuit.ensures.circuit in
    let pairs = c.in_ok-pairs.pairs in
    let wide : 1 ≤ pairs.width =
    omega (arith, c.in_ok-pairs.ensures.width, c.in_ok-pairs.ensures.some) in
    let read = c.in_ok-text.ensures.read
    (λ rest. c.in_ok-line.ensures.rows bench rest accepted) wide in
    let wrote = rw (c.deref.ensures.value) at c.in_err-put_text.ensures in
    rw (p.1, p.2) (
      c.in_ok-text.text.items,
      pairs_made bench c.args.tests.now c.in_ok-text.text.items c.in_ok-line.line.items
          c.in_ok-circuit.circuit c.in_ok-circuit.tests pairs accepted
          c.in_ok-circuit.ensures.tests c.in_ok-pairs.ensures.pairs c.in_ok-pairs.ensures.width
          c.in_ok-line.ensures.line c.in_ok-text.ensures.text read,
      wrote,
    )

pub returns-in_err-put_text-clause-refused : goal.returns-in_err-put_text-clause-refused
returns-in_err-put_text-clause-refused g c =
    let p = err_from_is_err_and c.from_residual-in_err-put_text.result
    c.from_residual-in_err-put_text.ensures.1 in
    rw (p.1, p.2) (
      c.in_ok-circuit.circuit,
      c.in_ok-circuit.tests,
      c.in_ok-circuit.ensures.circuit,
      c.in_ok-circuit.ensures.tests,
    )

pub returns-clause-written : goal.returns-clause-written
returns-clause-written g c =
    let bench = c.args.bench.now in
    let accepted = c.in_ok-circuit.ensures.circuit in
    let pairs = c.in_ok-pairs.pairs in
    let wide : 1 ≤ pairs.width =
    omega (arith, c.in_ok-pairs.ensures.width, c.in_ok-pairs.ensures.some) in
    let read = c.in_ok-text.ensures.read
    (λ rest. c.in_ok-line.ensures.rows bench rest accepted) wide in
    let wrote = rw (c.deref.ensures.value) at c.in_ok-put_text.ensures in (
      c.in_ok-text.text.items,
      pairs_made bench c.args.tests.now c.in_ok-text.text.items c.in_ok-line.line.items
          c.in_ok-circuit.circuit c.in_ok-circuit.tests pairs accepted
          c.in_ok-circuit.ensures.tests c.in_ok-pairs.ensures.pairs c.in_ok-pairs.ensures.width
          c.in_ok-line.ensures.line c.in_ok-text.ensures.text read,
      wrote,
    )
