use Rattle.std.proofs.{Common.{◌≡◌, ◌∙◌, List, ap, length}, lemmas.Result.err_from_is_err_and}
use Rattle.bench_net.specs.Statement.{Statement}
use Rattle.block_sim.specs.Parts.{Parts}
use Rattle.region_runs.specs.Refused.{IsOpenFault}
use Rattle.analysis_reports.specs.Compacted.{IsKeptTextOfJob, kept_text}
use Rattle.analysis_reports.proofs.CompactedTexts.{counted, given_text, kept_fault, the_count}
use Rattle.analysis_reports.proofs.compacted.write_kept_of_run.Goals as goal

pub returns-in_err-put_kept-clause-written : goal.returns-in_err-put_kept-clause-written
returns-in_err-put_kept-clause-written g c =
    let p = err_from_is_err_and c.from_residual-in_err-put_kept.result
    c.from_residual-in_err-put_kept.ensures.1 in
    let job = c.args.run.now.whole in
    let kept = c.in_ok-kept.kept.tests.tests in
    let numbers = c.in_ok-kept.kept.numbers.items in
    let form = c.args.layout.form in
    let all = c.count-all.ensures ∙ ap (λ t. length t.tests) c.tests.ensures.tests in
    let circuit : c.circuit.result.now ≡ job.circuit = c.circuit.ensures.part
    ∙ (c.job.ensures.circuit ∙ ap (λ (p : Parts). p.circuit) c.in_ok-kept.ensures.job) in
    rw (p.1, p.2) (given_text (λ bytes. bytes ≡ kept_text form c.circuit.result.now kept numbers)
    (IsKeptTextOfJob job c.args.layout) (the_count c.count.result c.count-all.result) _ _ _
    (λ text is. (
      kept,
      numbers,
      c.in_ok-kept.ensures.ordered,
      counted job.tests.tests kept c.count.result c.count-all.result c.count.ensures all,
      is ∙ ap (λ (x : List Statement). kept_text form x kept numbers) circuit,
    )) c.in_err-put_kept.ensures.written)

pub returns-in_err-put_kept-clause-refused : goal.returns-in_err-put_kept-clause-refused
returns-in_err-put_kept-clause-refused g c =
    let p = err_from_is_err_and c.from_residual-in_err-put_kept.result
    c.from_residual-in_err-put_kept.ensures.1 in
    rw (p.1, p.2) (kept_fault c.args.workers (IsOpenFault c.args.workers) _
    c.in_ok-kept.ensures.workers.0 c.in_ok-kept.ensures.workers.1 c.in_err-put_kept.ensures.refused)

pub returns-clause-written : goal.returns-clause-written
returns-clause-written g c =
    let w = c.in_ok-put_kept.ensures.written in
    let job = c.args.run.now.whole in
    let kept = c.in_ok-kept.kept.tests.tests in
    let numbers = c.in_ok-kept.kept.numbers.items in
    let form = c.args.layout.form in
    let all = c.count-all.ensures ∙ ap (λ t. length t.tests) c.tests.ensures.tests in
    let circuit : c.circuit.result.now ≡ job.circuit = c.circuit.ensures.part
    ∙ (c.job.ensures.circuit ∙ ap (λ (p : Parts). p.circuit) c.in_ok-kept.ensures.job) in (
      w.0,
      (
        kept,
        numbers,
        c.in_ok-kept.ensures.ordered,
        counted job.tests.tests kept c.count.result c.count-all.result c.count.ensures all,
        w.1 ∙ ap (λ (x : List Statement). kept_text form x kept numbers) circuit,
      ),
      w.2,
    )
