use Rattle.std.proofs.Common.{◌∙◌, sym, arith}
use Rattle.report.{specs.Report.first_at, proofs.ClassFirsts.{counted_class, uncounted_class}}
use Rattle.report.proofs.report.detected_classes.Goals.{then-is_detected, else-is_detected}
use Rattle.report.proofs.report.detected_classes.Goals as goal

pub loop-class-preserved : goal.loop-class-preserved
loop-class-preserved c =
    let first = first_at c.args.verdicts.now.firsts in
    let rs = c.args.classes.now.representative in
    let so_far = c.loop-class.invariant in
    elim c.if-is_detected.branch [
      | then-is_detected w ↦
          let more = counted_class first rs c.loop-class.class c.representative.result
          c.representative.ensures (sym c.is_detected.ensures ∙ w.if-is_detected.true) in
          (omega (arith, w.found-is, so_far.0, more), omega (arith, w.found-is, so_far.1))
      | else-is_detected w ↦
          let same = uncounted_class first rs c.loop-class.class c.representative.result
          c.representative.ensures (sym c.is_detected.ensures ∙ w.if-is_detected.false) in
          (omega (arith, w.found-is, so_far.0, same), omega (arith, w.found-is, so_far.1))
    ]
