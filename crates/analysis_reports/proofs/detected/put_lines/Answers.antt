use Rattle.std.proofs.{Common.{◌<◌, ◌≤◌, length, arith}, lemmas.Result.err_from_is_err_and}
use Rattle.analysis_reports.{specs.Detected.count_line, proofs.CountedTexts.is_count_line}
use Rattle.threaded_lines.proofs.Public.{line_stopped, line_taken, lines_taken}
use Rattle.analysis_reports.proofs.detected.put_lines.Goals as goal

pub returns-in_err-put_fault_line : goal.returns-in_err-put_fault_line
returns-in_err-put_fault_line g c =
    let p = err_from_is_err_and c.from_residual.result c.from_residual.ensures.1 in
    let lt : c.loop-fault.fault < length c.args.list.now.list = omega arith in
    rw (p.1, ← c.requires.list) (line_stopped (count_line c.args.circuit.now) c.args.list.now.list
    c.args.counts.now c.loop-fault.fault c.count_at.result _ _ _ _ lt
    c.count_at.ensures (λ f. is_count_line c.args.circuit.now f _ _ c.format-count.ensures.text)
    c.loop-fault.invariant c.in_err-put_fault_line.ensures)

pub loop-fault-preserved : goal.loop-fault-preserved
loop-fault-preserved g c =
    let lt : c.loop-fault.fault < length c.args.list.now.list = omega arith in
    line_taken (count_line c.args.circuit.now) c.args.list.now.list
    c.args.counts.now c.loop-fault.fault c.count_at.result _ _ _ _ lt
    c.count_at.ensures (λ f. is_count_line c.args.circuit.now f _ _ c.format-count.ensures.text)
    c.loop-fault.invariant c.in_ok-put_fault_line.ensures

pub returns : goal.returns
returns g c =
    let le : length c.args.list.now.list ≤ c.loop-fault.fault = omega arith in
    rw (← c.requires.list) (lines_taken (count_line c.args.circuit.now) c.args.list.now.list
    c.args.counts.now c.loop-fault.fault _ _ c.requires.count le c.loop-fault.invariant)
