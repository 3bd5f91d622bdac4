use Rattle.std.proofs.Common.{◌<◌, ◌∙◌, ◌++◌, ◌∷◌, [], ap, arith, get_or, length, sym}
use Rattle.compaction.proofs.ElementsAtMarks.{marked_none, marked_one}
use Rattle.compaction.proofs.rows.marked_numbers.Goals.{then-marks-place+in_ok-push}
use Rattle.compaction.proofs.rows.marked_numbers.Goals.{else-marks-place}
use Rattle.compaction.proofs.rows.marked_numbers.Goals as goal

pub loop-place-preserved : goal.loop-place-preserved
loop-place-preserved c =
    let marks = c.args.marks.now in
    let numbers = c.args.numbers.now in
    let t = c.loop-place.place in
    let in_marks : t < length marks = omega (arith, c.loop-place-test.true) in
    let within : t < length numbers = omega (arith, in_marks, c.requires) in
    elim c.if-marks-place.branch [
      | then-marks-place+in_ok-push w ↦ ap (λ v. v.items) w.kept-is ∙ (w.in_ok-push.ensures.items
          ∙ (ap (λ xs. xs ++ get_or numbers t 0 ∷ []) c.loop-place.invariant
          ∙ sym (marked_one marks numbers t 0 in_marks within w.if-marks-place.true)))
      | else-marks-place w ↦ ap (λ v. v.items) w.kept-is ∙ (c.loop-place.invariant
          ∙ sym (marked_none marks numbers t in_marks w.if-marks-place.false))
    ]
