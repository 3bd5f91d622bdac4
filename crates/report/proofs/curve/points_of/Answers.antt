use Rattle.std.proofs.Common.{◌≡◌, ◌<◌, ◌+◌, ◌++◌, ◌∷◌, [], ◌∙◌, ap, arith, get_or, length, sym}
use Rattle.compaction.specs.Compaction.{is_first}
use Rattle.report.specs.Curve.{curve}
use Rattle.report.proofs.CurvePoints.{below_more, below_none, curve_point, curve_same, finds_none}
use Rattle.report.proofs.CurvePoints.{finds_some, found_below, found_few, point_is}
use Rattle.report.proofs.curve.points_of.Goals.{then-more-gt0+in_ok-push, else-more-gt0}
use Rattle.report.proofs.curve.points_of.Goals as goal

pub loop-test-init : goal.loop-test-init
loop-test-init c = (sym (below_none c.args.verdicts.now.firsts), c.new-points.ensures.items)

pub overflow_add-detected : goal.overflow_add-detected
overflow_add-detected c =
    let t = c.loop-test.test in
    let firsts = c.args.verdicts.now.firsts in
    let within : t < length c.args.news.now = omega (arith, c.loop-test-test.true) in
    omega (
      arith,
      c.loop-test.invariant.0,
      c.requires.news t within,
      below_more firsts t,
      found_few firsts (t + 1),
      c.requires.faults,
    )

pub loop-test-preserved : goal.loop-test-preserved
loop-test-preserved c =
    let t = c.loop-test.test in
    let firsts = c.args.verdicts.now.firsts in
    let within : t < length c.args.news.now = omega (arith, c.loop-test-test.true) in
    let news = c.requires.news t within in
    let so_far = c.loop-test.invariant in
    elim c.if-more-gt0.branch [
      | then-more-gt0+in_ok-push w ↦
          let now : c.loop-test.detected + get_or c.args.news.now t 0 ≡ found_below firsts (t + 1) =
          omega (arith, so_far.0, news, below_more firsts t) in
          let some = finds_some (is_first t) firsts (omega (arith, news, w.if-more-gt0.true)) in (
            w.detected-is ∙ now,
            ap (λ v. v.items) w.points-is ∙ (w.in_ok-push.ensures.items ∙ (ap (λ l. l ++ record {
              test = t;
              gained = get_or c.args.news.now t 0;
              detected = c.loop-test.detected + get_or c.args.news.now t 0;
            } ∷ []) so_far.1
                ∙ (ap (λ p. curve t firsts ++ p ∷ []) (sym (point_is firsts t _ _ news now))
                ∙ sym (curve_point firsts t some)))),
          )
      | else-more-gt0 w ↦
          let none = finds_none (is_first t) firsts (omega (arith, news, w.if-more-gt0.false)) in (
            omega (arith, w.detected-is, so_far.0, news, w.if-more-gt0.false, below_more firsts t),
            ap (λ v. v.items) w.points-is ∙ (so_far.1 ∙ sym (curve_same firsts t none)),
          )
    ]
