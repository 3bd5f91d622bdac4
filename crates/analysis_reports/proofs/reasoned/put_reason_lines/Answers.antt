use Rattle.std.proofs.{Common.{◌<◌, ◌≤◌, length, arith}, lemmas.Result.err_from_is_err_and}
use Rattle.analysis_reports.specs.Reasons.{reason_line}
use Rattle.analysis_reports.proofs.ReasonTexts.{is_reason_line, no_reason_line}
use Rattle.threaded_lines.proofs.Public.{line_cut, line_left, line_put}
use Rattle.analysis_reports.proofs.reasoned.put_reason_lines.Goals as goal

pub returns-in_err-put_fault_line : goal.returns-in_err-put_fault_line
returns-in_err-put_fault_line g c =
    let p = err_from_is_err_and c.from_residual.result c.from_residual.ensures.1 in
    let lt : c.loop-fault.fault < length c.args.list.now.list = omega arith in
    let le : c.args.start ≤ c.loop-fault.fault = omega arith in
    let before : c.loop-fault.fault < c.args.end = omega arith in
    rw (p.1) (line_cut (reason_line c.args.circuit.now) c.args.list.now.list c.args.reasons.now
    c.args.start c.loop-fault.fault c.args.end c.reason_at.result _ _ _ _ le before lt
    c.reason_at.ensures (λ f. is_reason_line c.args.circuit.now f _ c.in-Some.reason _
    c.in-Some.is c.words_of.ensures) c.loop-fault.invariant c.in_err-put_fault_line.ensures)

pub loop-fault-preserved : goal.loop-fault-preserved
loop-fault-preserved g c =
    let lt : c.loop-fault.fault < length c.args.list.now.list = omega arith in
    let le : c.args.start ≤ c.loop-fault.fault = omega arith in
    line_put (reason_line c.args.circuit.now) c.args.list.now.list c.args.reasons.now
    c.args.start c.loop-fault.fault c.reason_at.result _ _ _ _ le lt
    c.reason_at.ensures (λ f. is_reason_line c.args.circuit.now f _ c.in-Some.reason _
    c.in-Some.is c.words_of.ensures) c.loop-fault.invariant c.in_ok-put_fault_line.ensures

pub loop-fault-preserved-in_default : goal.loop-fault-preserved-in_default
loop-fault-preserved-in_default g c =
    let lt : c.loop-fault.fault < length c.args.list.now.list = omega arith in
    let le : c.args.start ≤ c.loop-fault.fault = omega arith in
    line_left (reason_line c.args.circuit.now) c.args.list.now.list c.args.reasons.now
    c.args.start c.loop-fault.fault c.reason_at.result _ _ le lt c.reason_at.ensures
    (λ f. no_reason_line c.args.circuit.now f _ c.in_default.is) c.loop-fault.invariant
