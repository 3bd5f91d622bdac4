use Rattle.std.proofs.Common.{◌<◌, ◌≤◌, length, arith, sym, ◌∙◌}
use Rattle.std.proofs.lemmas.Result.{err_from_is_err_and}
use Rattle.report.{specs.Report.wanted_line, proofs.TextPieces.{is_first_line, has_no_line}}
use Rattle.threaded_lines.proofs.Public.{line_cut, line_left, line_put}
use Rattle.report.proofs.report.put_lines.Goals as goal

pub returns-in_err-put_fault_line : goal.returns-in_err-put_fault_line
returns-in_err-put_fault_line g c =
    let p = err_from_is_err_and c.from_residual.result c.from_residual.ensures.1 in
    let lt : c.loop-fault.fault < length c.args.list.now.list = omega arith in
    let le : c.args.start ≤ c.loop-fault.fault = omega arith in
    let before : c.loop-fault.fault < c.args.end = omega arith in
    rw (p.1) (line_cut (wanted_line c.args.lines c.args.circuit.now) c.args.list.now.list
    c.args.verdicts.now.firsts c.args.start c.loop-fault.fault c.args.end c.first-first.result
    _ _ _ _ le before lt c.first-first.ensures
    (λ f. is_first_line c.args.lines c.args.circuit.now f _ _
    (sym c.has.ensures ∙ c.if-not-has.false) c.first_text-said.ensures)
    c.loop-fault.invariant c.in_err-put_fault_line.ensures)

pub loop-fault-preserved : goal.loop-fault-preserved
loop-fault-preserved g c =
    let lt : c.loop-fault.fault < length c.args.list.now.list = omega arith in
    let le : c.args.start ≤ c.loop-fault.fault = omega arith in
    line_put (wanted_line c.args.lines c.args.circuit.now) c.args.list.now.list
    c.args.verdicts.now.firsts c.args.start c.loop-fault.fault c.first-first.result _ _ _ _ le lt
    c.first-first.ensures (λ f. is_first_line c.args.lines c.args.circuit.now f _ _
    (sym c.has.ensures ∙ c.if-not-has.false) c.first_text-said.ensures)
    c.loop-fault.invariant c.in_ok-put_fault_line.ensures

pub loop-fault-preserved-then-not-has : goal.loop-fault-preserved-then-not-has
loop-fault-preserved-then-not-has g c =
    let lt : c.loop-fault.fault < length c.args.list.now.list = omega arith in
    let le : c.args.start ≤ c.loop-fault.fault = omega arith in
    line_left (wanted_line c.args.lines c.args.circuit.now) c.args.list.now.list
    c.args.verdicts.now.firsts c.args.start c.loop-fault.fault c.first-first.result _ _ le lt
    c.first-first.ensures
    (λ f. has_no_line c.args.lines c.args.circuit.now f _ (sym c.has.ensures ∙ c.if-not-has.true))
    c.loop-fault.invariant
