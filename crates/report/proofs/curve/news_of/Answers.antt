use Rattle.std.proofs.Common.{◌≡◌, ◌<◌, ◌∙◌, ap, arith, get_or, length, sym}
use Rattle.report.proofs.CurvePoints.{news_more, written_over}
use Rattle.report.proofs.curve.news_of.Goals as goal

pub loop-fault-preserved : goal.loop-fault-preserved
loop-fault-preserved c =
    let new = c.count_first.new.news in
    let firsts = c.args.verdicts.now.firsts in
    let so_far = c.loop-fault.invariant in
    let len : c.loop-fault.news.len ≡ length new = sym (c.count_first.auto.news
    ∙ c.deref_mut.ensures.len) in
    let count : length new ≡ c.args.tests = c.count_first.ensures.count
    ∙ (ap length c.deref_mut.ensures.value ∙ so_far.count) in
    rw (written_over c.loop-fault.news.len new _ len) (record {
      count = count;
      each = λ t lt.
          let within : t < length c.deref_mut.result.now = omega (
            arith,
            lt,
            count,
            c.count_first.ensures.count,
          ) in
          let before = ap (λ l. get_or l t 0) c.deref_mut.ensures.value in
          let more = news_more firsts t c.loop-fault.fault c.first.result c.first.ensures in
          omega (arith, c.count_first.ensures.each t within, before, so_far.each t lt, more);
    })
