use Rattle.std.{proofs.Common.{◌∙◌, ap, sym, arith}, specs.Prelude.is_some}
use Rattle.report.{specs.Report.first_at, proofs.Public.{counted_class, uncounted_class}}
use Rattle.part_files.proofs.merged_classes.detected_classes_in.Goals.{then-is_some, else-is_some}
use Rattle.part_files.proofs.merged_classes.detected_classes_in.Goals as goal

pub loop-class-preserved : goal.loop-class-preserved
loop-class-preserved c =
    let first = first_at c.args.firsts.now in
    let rs = c.args.classes.now.representative in
    let so_far = c.loop-class.invariant in
    elim c.if-is_some.branch [
      | then-is_some w ↦
          let more = counted_class first rs c.loop-class.class c.representative.result
          c.representative.ensures
          (ap is_some (sym c.first_of.ensures) ∙ (sym c.is_some.ensures ∙ w.if-is_some.true)) in
          (omega (arith, w.found-is, so_far.0, more), omega (arith, w.found-is, so_far.1))
      | else-is_some w ↦
          let same = uncounted_class first rs c.loop-class.class c.representative.result
          c.representative.ensures
          (ap is_some (sym c.first_of.ensures) ∙ (sym c.is_some.ensures ∙ w.if-is_some.false)) in
          (omega (arith, w.found-is, so_far.0, same), omega (arith, w.found-is, so_far.1))
    ]
