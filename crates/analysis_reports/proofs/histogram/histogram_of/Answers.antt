use Rattle.std.proofs.Common.{◌≡◌, ◌+◌, ◌<◌, ◌∙◌, ap, arith, get_or, length, sym, take}
use Rattle.std.proofs.lemmas.List.{take_all}
use Rattle.analysis_reports.specs.Histogram.{faults_with}
use Rattle.report.proofs.Public.{written_over}
use Rattle.analysis_reports.proofs.HistogramTexts.{is_histogram, with_more}
use Rattle.analysis_reports.proofs.histogram.histogram_of.Goals as goal

pub loop-count-preserved : goal.loop-count-preserved
loop-count-preserved c =
    let new = c.add_one.new.faults in
    let counts = c.args.counts.now in
    let so_far = c.loop-count.invariant in
    let len : c.loop-count.faults.len ≡ length new = sym (c.add_one.auto.faults
    ∙ c.deref_mut.ensures.len) in
    let count : length new ≡ c.args.most + 1 = c.add_one.ensures.count
    ∙ (ap length c.deref_mut.ensures.value ∙ so_far.count) in
    rw (written_over c.loop-count.faults.len new _ len) (record {
      count = count;
      each = λ n lt.
          let within : n < length c.deref_mut.result.now = omega (
            arith,
            lt,
            count,
            c.add_one.ensures.count,
          ) in
          let before = ap (λ l. get_or l n 0) c.deref_mut.ensures.value in
          let more = with_more counts n c.loop-count.count-index c.loop-count-test.true in
          omega (arith, c.add_one.ensures.each n within, before, so_far.each n lt, more);
    })

pub returns : goal.returns
returns c =
    let counts = c.args.counts.now in
    let so_far = c.loop-count.invariant in
    let all : take c.loop-count.count-index counts ≡ counts =
    take_all c.loop-count.count-index counts (omega (arith, c.loop-count-test.false)) in
    is_histogram c.args.most counts c.loop-count.faults.items so_far.count
    (λ n lt. so_far.each n lt ∙ ap (λ xs. faults_with xs n) all)
