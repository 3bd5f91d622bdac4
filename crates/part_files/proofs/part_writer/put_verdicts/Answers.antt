use Rattle.std.proofs.{Common.{◌<◌, ◌≤◌, length, arith}, lemmas.Result.err_from_is_err_and}
use Rattle.part_files.{specs.PartText.part_line, proofs.PartPieces.is_verdict_line}
use Rattle.threaded_lines.proofs.Public.{line_taken, line_stopped, lines_taken}
use Rattle.part_files.proofs.part_writer.put_verdicts.Goals as goal

pub returns-in_err-put_fault_line : goal.returns-in_err-put_fault_line
returns-in_err-put_fault_line g c =
    let p = err_from_is_err_and c.from_residual.result c.from_residual.ensures.1 in
    let lt : c.loop-fault.fault < length c.args.list.now.list = omega arith in
    rw (p.1) (line_stopped (part_line c.args.circuit.now) c.args.list.now.list
    c.args.verdicts.now c.loop-fault.fault c.verdict_at.result _ _ _ _ lt
    c.verdict_at.ensures (λ f. is_verdict_line c.args.circuit.now f _ _ c.verdict_text-said.ensures)
    c.loop-fault.invariant c.in_err-put_fault_line.ensures)

pub loop-fault-preserved : goal.loop-fault-preserved
loop-fault-preserved g c =
    let lt : c.loop-fault.fault < length c.args.list.now.list = omega arith in
    line_taken (part_line c.args.circuit.now) c.args.list.now.list
    c.args.verdicts.now c.loop-fault.fault c.verdict_at.result _ _ _ _ lt
    c.verdict_at.ensures (λ f. is_verdict_line c.args.circuit.now f _ _ c.verdict_text-said.ensures)
    c.loop-fault.invariant c.in_ok-put_fault_line.ensures

pub returns : goal.returns
returns g c =
    let le : length c.args.list.now.list ≤ c.loop-fault.fault = omega arith in
    (lines_taken (part_line c.args.circuit.now) c.args.list.now.list
    c.args.verdicts.now c.loop-fault.fault _ _ c.requires.count le c.loop-fault.invariant)
