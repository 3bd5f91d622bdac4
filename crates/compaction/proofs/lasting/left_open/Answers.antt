use Rattle.std.proofs.Common.{◌∙◌, ◌<◌, ◌+◌, ap, arith, get_or, length, subst, sym}
use Rattle.std.specs.Prelude.{None, Some}
use Rattle.std.proofs.lemmas.Option.{slice_get-get_or}
use Rattle.compaction.specs.Turns.{AreLeftOpen}
use Rattle.compaction.proofs.LeftClasses.{as_none, as_some, left_none, left_one}
use Rattle.compaction.proofs.lasting.left_open.Goals.{then-is_none+in_ok-push, else-is_none}
use Rattle.compaction.proofs.lasting.left_open.Goals as goal

pub loop-place-preserved : goal.loop-place-preserved
loop-place-preserved c =
    let classes = c.args.classes.now in
    let lasts = c.args.lasts.now in
    let place = c.loop-place.place in
    let within : place < length classes = omega (arith, c.loop-place-test.true) in
    let same = c.requires in
    let last = slice_get-get_or lasts place None (omega (arith, within, same)) in
    elim c.if-is_none.branch [
      | then-is_none+in_ok-push w ↦
          let none = last ∙ ap Some (as_none _ _ c.is_none.ensures w.if-is_none.true) in
          subst (AreLeftOpen classes lasts (place + 1))
          (sym (ap (λ v. v.items) w.left-is ∙ w.in_ok-push.ensures.items))
          (left_one classes lasts place c.loop-place.left.items c.loop-place.invariant
          (get_or classes place 0) (slice_get-get_or classes place 0 within) none)
      | else-is_none w ↦
          let some = as_some _ _ c.is_none.ensures w.if-is_none.false in
          subst (AreLeftOpen classes lasts (place + 1)) (sym (ap (λ v. v.items) w.left-is))
          (left_none classes lasts place c.loop-place.left.items c.loop-place.invariant some.0
          (last ∙ ap Some some.1))
    ]
