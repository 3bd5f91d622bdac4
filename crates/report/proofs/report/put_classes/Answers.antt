use Rattle.std.proofs.{Common.{◌<◌, ◌≤◌, length, arith}, lemmas.Result.err_from_is_err_and}
use Rattle.report.{specs.Report.class_line, proofs.TextPieces.is_class_line}
use Rattle.threaded_lines.proofs.Public.{line_taken, line_stopped, lines_taken}
use Rattle.report.proofs.report.put_classes.Goals as goal

pub returns-in_err-put_fault_line : goal.returns-in_err-put_fault_line
returns-in_err-put_fault_line g c =
    let p = err_from_is_err_and c.from_residual.result c.from_residual.ensures.1 in
    let lt : c.loop-fault.fault < length c.args.list.now.list = omega arith in
    rw (p.1) (line_stopped (class_line c.args.circuit.now) c.args.list.now.list
    c.args.classes.now.class_of c.loop-fault.fault c.class_of.result _ _ _ _ lt
    c.class_of.ensures (λ f. is_class_line c.args.circuit.now f _ _ c.format-class.ensures.text)
    c.loop-fault.invariant c.in_err-put_fault_line.ensures)

pub loop-fault-preserved : goal.loop-fault-preserved
loop-fault-preserved g c =
    let lt : c.loop-fault.fault < length c.args.list.now.list = omega arith in
    line_taken (class_line c.args.circuit.now) c.args.list.now.list
    c.args.classes.now.class_of c.loop-fault.fault c.class_of.result _ _ _ _ lt
    c.class_of.ensures (λ f. is_class_line c.args.circuit.now f _ _ c.format-class.ensures.text)
    c.loop-fault.invariant c.in_ok-put_fault_line.ensures

pub returns : goal.returns
returns g c =
    let le : length c.args.list.now.list ≤ c.loop-fault.fault = omega arith in
    (lines_taken (class_line c.args.circuit.now) c.args.list.now.list
    c.args.classes.now.class_of c.loop-fault.fault _ _ c.requires.count le c.loop-fault.invariant)
