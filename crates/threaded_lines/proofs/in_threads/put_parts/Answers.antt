use Rattle.std.proofs.Common.{◌≡◌, ◌<◌, ◌∙◌, ap, arith, get_or, length, rules, subst, suc, sym}
use Rattle.std.specs.Vec.Iter.{into_iter_items, into_iter_len}
use Rattle.std.proofs.lemmas.Result.{err_from_is_err_and}
use Rattle.threaded_lines.specs.Stretches.{HasLines, HasPut, HasStretch}
use Rattle.threaded_lines.proofs.LinesOfStretches.{text_cut, text_put}
use Rattle.threaded_lines.proofs.in_threads.put_parts.Goals.{then-start-end+in_ok-put_all}
use Rattle.threaded_lines.proofs.in_threads.put_parts.Goals.{else-start-end}
use Rattle.threaded_lines.proofs.in_threads.put_parts.Goals as goal

pub loop-part-preserved-in_default : goal.loop-part-preserved-in_default
loop-part-preserved-in_default g c =
    let ts = g.L.FaultLines.texts c.args.lines.now in
    let was = c.loop-part.invariant in
    let step = c.in-Some.ensures.steps in
    record {
      left = λ k d lt.
          let h = was.left (suc k) d (omega (arith, lt, step.1)) in
          subst (HasStretch ts) (ap (λ l. get_or l (suc k) d) step.0) h;
      low = was.low;
      within = was.within;
      taken = was.taken;
    }

pub returns-in_err-put_all : goal.returns-in_err-put_all
returns-in_err-put_all g c =
    let p = err_from_is_err_and c.from_residual.result c.from_residual.ensures.1 in
    let ts = g.L.FaultLines.texts c.args.lines.now in
    let was = c.loop-part.invariant in
    let next : c.in-Some.part ≡ get_or (into_iter_items c.loop-part.part-iterator) 0 c.in-Some.part
    = grind rules in
    let some : 0 < into_iter_len c.loop-part.part-iterator = grind rules in
    let has : HasStretch ts c.in-Some.part =
    subst (HasStretch ts) (sym next) (was.left 0 c.in-Some.part some) in
    let own : HasLines ts c.in-Ok.stretch = subst (HasStretch ts) c.in-Ok.is has in
    let here : c.in-Ok.stretch.start ≡ c.loop-part.end = omega (arith, c.if-start-end.true) in
    rw (p.1) (text_cut (λ text. text) ts c.args.place c.loop-part.end
    c.in-Ok.stretch.start c.in-Ok.stretch.end (length ts) c.deref.result.now _ _ _ here
    (c.deref.ensures.value ∙ own.text) was.low own.order own.within was.taken
    c.in_err-put_all.ensures)

pub loop-part-preserved-after-start-end : goal.loop-part-preserved-after-start-end
loop-part-preserved-after-start-end g c =
    let ts = g.L.FaultLines.texts c.args.lines.now in
    let was = c.loop-part.invariant in
    let step = c.in-Some.ensures.steps in
    let next : c.in-Some.part ≡ get_or (into_iter_items c.loop-part.part-iterator) 0 c.in-Some.part
    = grind rules in
    let some : 0 < into_iter_len c.loop-part.part-iterator = grind rules in
    let has : HasStretch ts c.in-Some.part =
    subst (HasStretch ts) (sym next) (was.left 0 c.in-Some.part some) in
    let own : HasLines ts c.in-Ok.stretch = subst (HasStretch ts) c.in-Ok.is has in
    let put : HasPut ts c.args.place c.if-start-end.end (g.W.Out.seen c.args.out.now)
    (g.W.Out.seen c.if-start-end.out) =
    elim c.if-start-end.branch [
      | then-start-end+in_ok-put_all w ↦
          let here : c.in-Ok.stretch.start ≡ c.loop-part.end = omega (arith, w.if-start-end.true) in
          subst (λ e. HasPut ts c.args.place e (g.W.Out.seen c.args.out.now)
          (g.W.Out.seen c.if-start-end.out)) (sym w.end-is)
          (subst (λ o. HasPut ts c.args.place c.in-Ok.stretch.end
          (g.W.Out.seen c.args.out.now) (g.W.Out.seen o)) (sym w.out-is) (record {
            order = omega (arith, here, was.low, own.order);
            within = own.within;
            taken = text_put (λ text. text) ts c.args.place c.loop-part.end
                c.in-Ok.stretch.start c.in-Ok.stretch.end w.deref.result.now _ _ _ here
                (w.deref.ensures.value ∙ own.text) was.low own.order was.taken
                w.in_ok-put_all.ensures;
          }))
      | else-start-end w ↦ subst (λ e. HasPut ts c.args.place e (g.W.Out.seen c.args.out.now)
          (g.W.Out.seen c.if-start-end.out)) (sym w.end-is)
          (subst (λ o. HasPut ts c.args.place c.loop-part.end
          (g.W.Out.seen c.args.out.now) (g.W.Out.seen o)) (sym w.out-is)
          (record { order = was.low; within = was.within; taken = was.taken }))
    ] in
    record {
      left = λ k d lt.
          let h = was.left (suc k) d (omega (arith, lt, step.1)) in
          subst (HasStretch ts) (ap (λ l. get_or l (suc k) d) step.0) h;
      low = put.order;
      within = put.within;
      taken = put.taken;
    }

pub loop-part-preserved : goal.loop-part-preserved
loop-part-preserved g c =
    let ts = g.L.FaultLines.texts c.args.lines.now in
    let was = c.loop-part.invariant in
    let step = c.in-Some.ensures.steps in
    let next : c.in-Some.part ≡ get_or (into_iter_items c.loop-part.part-iterator) 0 c.in-Some.part
    = grind rules in
    let some : 0 < into_iter_len c.loop-part.part-iterator = grind rules in
    let has : HasStretch ts c.in-Some.part =
    subst (HasStretch ts) (sym next) (was.left 0 c.in-Some.part some) in
    let own : HasLines ts c.in-Ok.stretch = subst (HasStretch ts) c.in-Ok.is has in
    let put : HasPut ts c.args.place c.if-start-end.end (g.W.Out.seen c.args.out.now)
    (g.W.Out.seen c.if-start-end.out) =
    elim c.if-start-end.branch [
      | then-start-end+in_ok-put_all w ↦
          let here : c.in-Ok.stretch.start ≡ c.loop-part.end = omega (arith, w.if-start-end.true) in
          subst (λ e. HasPut ts c.args.place e (g.W.Out.seen c.args.out.now)
          (g.W.Out.seen c.if-start-end.out)) (sym w.end-is)
          (subst (λ o. HasPut ts c.args.place c.in-Ok.stretch.end
          (g.W.Out.seen c.args.out.now) (g.W.Out.seen o)) (sym w.out-is) (record {
            order = omega (arith, here, was.low, own.order);
            within = own.within;
            taken = text_put (λ text. text) ts c.args.place c.loop-part.end
                c.in-Ok.stretch.start c.in-Ok.stretch.end w.deref.result.now _ _ _ here
                (w.deref.ensures.value ∙ own.text) was.low own.order was.taken
                w.in_ok-put_all.ensures;
          }))
      | else-start-end w ↦ subst (λ e. HasPut ts c.args.place e (g.W.Out.seen c.args.out.now)
          (g.W.Out.seen c.if-start-end.out)) (sym w.end-is)
          (subst (λ o. HasPut ts c.args.place c.loop-part.end
          (g.W.Out.seen c.args.out.now) (g.W.Out.seen o)) (sym w.out-is)
          (record { order = was.low; within = was.within; taken = was.taken }))
    ] in
    record {
      left = λ k d lt.
          let h = was.left (suc k) d (omega (arith, lt, step.1)) in
          subst (HasStretch ts) (ap (λ l. get_or l (suc k) d) step.0) h;
      low = put.order;
      within = put.within;
      taken = put.taken;
    }
