use Rattle.std.proofs.lemmas.Result.{err_from_is_err_and}
use Rattle.block_sim.specs.Parts.{piece_count}
use Rattle.report.specs.EndToEnd.{HasSomeMoves, IsScheduleReportFault, IsScheduleTextFault}
use Rattle.job_loading.proofs.Public.{job_of_texts}
use Rattle.report.proofs.ReportsOfTexts.{moves_fault, on_ok, pieces_fault, refused_as}
use Rattle.report.proofs.ReportsOfTexts.{written_of_texts}
use Rattle.report.proofs.text.schedule_text_with.Goals as goal

pub report_schedule-requires : goal.report_schedule-requires
report_schedule-requires g c = c.in_ok-job.ensures.job.2

pub returns-in_err-job-clause-refused : goal.returns-in_err-job-clause-refused
returns-in_err-job-clause-refused g c =
    let p = err_from_is_err_and c.from_residual-in_err-job.result
    c.from_residual-in_err-job.ensures.1 in
    rw (p.1, p.2) (pieces_fault c.args.model c.args.bench.now c.args.tests.now c.args.order.now
    c.args.workers c.in_ok-circuit.circuit c.in_ok-circuit.tests c.in_ok-circuit.ensures.circuit
    c.in_ok-circuit.ensures.tests (c.in_ok-moves.moves.items, c.in_ok-moves.ensures.moves) _
    c.in_err-job.ensures.refused)

pub returns-clause-order : goal.returns-clause-order
returns-clause-order g c =
    on_ok (HasSomeMoves c.args.order.now c.args.workers) c.report_schedule.result
    (c.in_ok-moves.moves.items, c.in_ok-moves.ensures.moves)

pub returns-clause-written : goal.returns-clause-written
returns-clause-written g c =
    let job = c.in_ok-job.job in
    let made = job_of_texts c.args.model c.args.bench.now c.args.tests.now c.in_ok-circuit.circuit
    c.in_ok-circuit.tests job
    c.in_ok-circuit.ensures.circuit c.in_ok-circuit.ensures.tests c.in_ok-job.ensures.job in
    written_of_texts c.args.model c.args.bench.now c.args.tests.now c.args.contents job
    c.report_schedule.result _ _ made c.report_schedule.ensures.written

pub returns-clause-refused : goal.returns-clause-refused
returns-clause-refused g c =
    let job = c.in_ok-job.job in
    let made = job_of_texts c.args.model c.args.bench.now c.args.tests.now c.in_ok-circuit.circuit
    c.in_ok-circuit.tests job
    c.in_ok-circuit.ensures.circuit c.in_ok-circuit.ensures.tests c.in_ok-job.ensures.job in
    let moves = c.in_ok-moves.moves.items in
    refused_as (IsScheduleReportFault (piece_count job) moves c.args.workers)
    (IsScheduleTextFault c.args.model c.args.bench.now c.args.tests.now c.args.order.now
    c.args.workers) c.report_schedule.result
    (moves_fault c.args.model c.args.bench.now c.args.tests.now c.args.order.now c.args.workers job
    moves (made, c.in_ok-job.ensures.few) c.in_ok-moves.ensures.moves)
    (rw (c.deref.ensures.value) at c.report_schedule.ensures.refused)
