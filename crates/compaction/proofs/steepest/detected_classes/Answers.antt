use Rattle.std.{proofs.Common.{◌≡◌, ◌∙◌, ◌++◌, ◌∷◌, ◌+◌, [], ap, cond, sym}, specs.Prelude.filter}
use Rattle.std.proofs.lemmas.List.{append-nil, Elements.filter-append}
use Rattle.patterns.specs.Least.{below}
use Rattle.compaction.{specs.Detections.is_detected, proofs.TestNumbers.below_more}
use Rattle.compaction.proofs.steepest.detected_classes.Goals.{else-has_test}
use Rattle.compaction.proofs.steepest.detected_classes.Goals.{then-has_test+in_ok-push}
use Rattle.compaction.proofs.steepest.detected_classes.Goals as goal

pub loop-class-preserved : goal.loop-class-preserved
loop-class-preserved c =
    let p = is_detected c.args.detections.now in
    let class = c.loop-class.class in
    let front = filter p (below class) in
    let more : filter p (below (class + 1)) ≡ front ++ filter p (class ∷ []) =
    ap (filter p) (below_more class) ∙ filter-append p (below class) (class ∷ []) in
    (elim c.if-has_test.branch [
      | then-has_test+in_ok-push w ↦ rw (w.left-is, w.in_ok-push.ensures.items)
          (ap (λ xs. xs ++ class ∷ []) c.loop-class.invariant
          ∙ (ap (λ b. front ++ cond b (class ∷ []) []) (sym w.if-has_test.true ∙ c.has_test.ensures)
          ∙ sym more))
      | else-has_test w ↦ rw (w.left-is) (c.loop-class.invariant ∙ (sym (append-nil front)
          ∙ (ap (λ b. front ++ cond b (class ∷ []) [])
          (sym w.if-has_test.false ∙ c.has_test.ensures) ∙ sym more)))
    ])
