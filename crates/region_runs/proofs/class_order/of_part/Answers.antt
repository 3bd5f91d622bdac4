use Rattle.std.proofs.Common.{◌≡◌, ◌+◌, Global, Vec, arith, get_or, length, subst, sym, ℕ}
use Rattle.std.proofs.lemmas.Option.{slice_get-get_or}
use Rattle.region_runs.proofs.ClassOrders.{AreOwnUpTo, own_more, own_past, part_in_order}
use Rattle.region_runs.proofs.PartsOfClasses.{part_of_stem}
use Rattle.region_runs.proofs.class_order.of_part.Goals.{then-stem_of_class-parts+in_ok-push}
use Rattle.region_runs.proofs.class_order.of_part.Goals.{else-stem_of_class-parts}
use Rattle.region_runs.proofs.class_order.of_part.Goals as goal

pub loop-class-preserved : goal.loop-class-preserved
loop-class-preserved c =
    let job = c.args.job.now in
    let parts = c.args.parts in
    let part = c.args.part in
    let classes = c.args.classes.now in
    let n = c.loop-class.class-index in
    let class = get_or classes n 0 in
    let at = slice_get-get_or classes n 0 c.loop-class-test.true in
    let stem = c.stem_of_class.result in
    let was = c.loop-class.invariant in
    let next = λ (v : Vec ℕ Global). AreOwnUpTo job parts part classes (n + 1) v.items in
    elim c.if-stem_of_class-parts.branch [
      | then-stem_of_class-parts+in_ok-push w ↦ subst next (sym w.own-is)
          (subst (AreOwnUpTo job parts part classes (n + 1)) (sym w.in_ok-push.ensures.items)
          (own_more job parts part classes n class c.loop-class.own.items was at (
            stem,
            c.stem_of_class.ensures.stem,
            sym w.if-stem_of_class-parts.true,
          )))
      | else-stem_of_class-parts w ↦ subst next (sym w.own-is)
          (own_past job parts part classes n class c.loop-class.own.items was at
          (λ of. w.if-stem_of_class-parts.false
          (sym (part_of_stem job parts part class stem c.stem_of_class.ensures.stem of))))
    ]

pub returns : goal.returns
returns c =
    let classes = c.args.classes.now in
    let end : c.loop-class.class-index ≡ length classes = omega arith in
    part_in_order c.args.job.now c.args.parts c.args.part classes c.loop-class.own.items
    c.requires.all (subst (λ n. AreOwnUpTo c.args.job.now c.args.parts c.args.part classes n
    c.loop-class.own.items) end c.loop-class.invariant)
