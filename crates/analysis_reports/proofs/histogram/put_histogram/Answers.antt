use Rattle.std.proofs.{Common.{◌<◌, arith, length, sym}, lemmas.Result.err_from_is_err_and}
use Rattle.patterns.{specs.Least.below, proofs.Public.length-below}
use Rattle.analysis_reports.specs.Histogram.{histogram_line}
use Rattle.analysis_reports.proofs.HistogramTexts.{count_stopped, count_taken}
use Rattle.threaded_lines.proofs.Public.{lines_taken}
use Rattle.analysis_reports.proofs.histogram.put_histogram.Goals as goal

pub returns-in_err-put_count : goal.returns-in_err-put_count
returns-in_err-put_count g c =
    let p = err_from_is_err_and c.from_residual.result c.from_residual.ensures.1 in
    let lt : c.loop-count.count < length c.args.faults.now =
    omega (arith, c.loop-count-test.true) in
    rw (p.1) (count_stopped c.args.faults.now c.loop-count.count _ _ _ lt c.loop-count.invariant
    c.in_err-put_count.ensures)

pub loop-count-preserved : goal.loop-count-preserved
loop-count-preserved g c =
    let lt : c.loop-count.count < length c.args.faults.now =
    omega (arith, c.loop-count-test.true) in
    count_taken c.args.faults.now c.loop-count.count _ _ _ lt c.loop-count.invariant
    c.in_ok-put_count.ensures

pub returns : goal.returns
returns g c =
    let n = length c.args.faults.now in
    let all = length-below n in
    lines_taken histogram_line (below n) c.args.faults.now c.loop-count.count _ _
    (sym all) (omega (arith, all, c.loop-count-test.false)) c.loop-count.invariant
