use Rattle.std.proofs.Common.{◌≡◌, ◌+◌, ◌<◌, ◌≤◌, ◌∷◌, ◌++◌, ◌∙◌, [], ap, arith, length}
use Rattle.std.proofs.Common.{length-append, subst, suc, sym, take}
use Rattle.bench_net.specs.reader.Entries.{AreNumberedLines}
use Rattle.bench_threads.specs.Stretches.{AreOfStretch, HasNumbered, joined, line_numbers_in}
use Rattle.bench_threads.proofs.StretchLines.{joined_at, line_numbers_append, numbered_append}
use Rattle.bench_threads.proofs.Waiting.{AllFrom, all_pushed}
use Rattle.bench_threads.proofs.numbering.fn.number_stretches.scope.Goals as goal
use Rattle.bench_threads.proofs.numbering.fn.number_stretches.scope.Goals.{
  then-place-count+in-Ok+in_ok-push_back,
  else-place-count,
}
use Rattle.bench_threads.proofs.numbering.fn.number_stretches.scope.Goals.{
  then-place-most+in-Some+in_ok-append_part,
  else-place-most,
}

pub loop-place-preserved : goal.loop-place-preserved
loop-place-preserved g c =
    let was : ((c.loop-place.place + 1 < c.count-count.result
    → c.loop-place.done + length c.if-place-count.handles.items ≡ c.loop-place.place + 1)
    × (c.loop-place.done + length c.if-place-count.handles.items ≤ c.count-count.result))
    × AllFrom (λ n h. (h.promise.place ≡ n) × (h.promise.file.value ≡ c.captures.file.now))
    c.loop-place.done c.if-place-count.handles.items = elim c.if-place-count.branch [
      | then-place-count+in-Ok+in_ok-push_back w ↦
          let old = c.loop-place.handles.items in
          let now : c.if-place-count.handles.items ≡ old ++ w.in-Ok.handle ∷ [] =
          ap (λ d. d.items) w.handles-is ∙ w.in_ok-push_back.ensures.items in
          let more = ap length now ∙ length-append old (w.in-Ok.handle ∷ []) in
          let here : c.loop-place.place ≡ c.loop-place.done + length old =
          sym (c.loop-place.invariant.waiting.0 w.if-place-count.true) in (
            (λ lt. omega (arith, more, here), omega (arith, more, here, w.if-place-count.true)),
            subst (AllFrom (λ n h. (h.promise.place ≡ n)
                × (h.promise.file.value ≡ c.captures.file.now)) c.loop-place.done) (sym now)
                (all_pushed (λ n h. (h.promise.place ≡ n)
                × (h.promise.file.value ≡ c.captures.file.now)) c.loop-place.done old
                w.in-Ok.handle c.loop-place.invariant.each (
                  ap (λ p. p.place) w.in-Ok.ensures.ok ∙ here,
                  ap (λ p. p.file.value) w.in-Ok.ensures.ok ∙ w.of.ensures,
                )),
          )
      | else-place-count w ↦
          let now = ap (λ d. d.items) w.handles-is in (
            (
              λ lt. absurd (omega (arith, lt, w.if-place-count.false)),
              omega (arith, ap length now, c.loop-place.invariant.waiting.1),
            ),
            subst (AllFrom (λ n h. (h.promise.place ≡ n)
                × (h.promise.file.value ≡ c.captures.file.now)) c.loop-place.done) (sym now)
                c.loop-place.invariant.each,
          )
    ] in
    elim c.if-place-most.branch [
      | then-place-most+in-Some+in_ok-append_part w ↦
          let ns = g.F.StretchedFile.names c.captures.file.now in
          let xs = g.F.StretchedFile.stretches c.captures.file.now in
          let done = c.loop-place.done in
          let all = c.loop-place.all in
          let popped = w.in-Some.ensures.items in
          let rest = ap (λ d. d.items) w.handles-is in
          let count = ap length popped in
          let each = subst (AllFrom (λ n h. (h.promise.place ≡ n)
          × (h.promise.file.value ≡ c.captures.file.now)) done) popped was.1 in
          let part = w.in_ok-append_part.ensures in
          let here : HasNumbered ns xs done w.join.result =
          subst (λ n. HasNumbered ns xs n w.join.result) each.0.0
          (subst (λ f. HasNumbered (g.F.StretchedFile.names f) (g.F.StretchedFile.stretches f)
          w.in-Some.handle.promise.place w.join.result) each.0.1 w.join.ensures) in
          let own : AreOfStretch ns xs done part.0 = subst (HasNumbered ns xs done) part.1 here in
          let grown = joined_at xs done own.stretch own.is in
          record {
            waiting = (
              λ lt. omega (arith, was.0.0 lt, count, ap length rest, w.done-is),
              omega (arith, was.0.1, count, ap length rest, w.done-is),
            );
            each = subst (λ n. AllFrom (λ n h. (h.promise.place ≡ n)
                × (h.promise.file.value ≡ c.captures.file.now)) n c.if-place-most.handles.items)
                (omega (arith, w.done-is)) (subst (AllFrom (λ n h. (h.promise.place ≡ n)
                × (h.promise.file.value ≡ c.captures.file.now)) (suc done)) (sym rest) each.1);
            numbered = subst (λ n. AreNumberedLines ns (joined (take n xs))
                c.if-place-most.all.lines.items) (sym w.done-is)
                (subst (AreNumberedLines ns (joined (take (done + 1) xs)))
                (sym (ap (λ a. a.lines.items) w.all-is ∙ part.2))
                (subst (λ l. AreNumberedLines ns l (all.lines.items ++ part.0.lines.items))
                (sym grown.1) (numbered_append ns (joined (take done xs)) own.stretch.stated.items
                all.lines.items part.0.lines.items c.loop-place.invariant.numbered own.numbered)));
            at = ap (λ a. a.at.items) w.all-is ∙ part.3
                ∙ ap (λ l. l ++ part.0.at.items) c.loop-place.invariant.at
                ∙ ap (λ l. line_numbers_in (joined (take done xs)) ++ l) own.at
                ∙ sym (line_numbers_append (joined (take done xs)) own.stretch.stated.items)
                ∙ sym (ap line_numbers_in grown.1)
                ∙ ap (λ n. line_numbers_in (joined (take n xs))) (sym w.done-is);
          }
      | else-place-most w ↦
          let ns = g.F.StretchedFile.names c.captures.file.now in
          let xs = g.F.StretchedFile.stretches c.captures.file.now in
          let rest = ap (λ d. d.items) w.handles-is in
          record {
            waiting = (
              λ lt. omega (arith, was.0.0 lt, ap length rest, w.done-is),
              omega (arith, was.0.1, ap length rest, w.done-is),
            );
            each = subst (λ n. AllFrom (λ n h. (h.promise.place ≡ n)
                × (h.promise.file.value ≡ c.captures.file.now)) n c.if-place-most.handles.items)
                (sym w.done-is) (subst (AllFrom (λ n h. (h.promise.place ≡ n)
                × (h.promise.file.value ≡ c.captures.file.now)) c.loop-place.done) (sym rest)
                was.1);
            numbered = subst (λ n. AreNumberedLines ns (joined (take n xs))
                c.if-place-most.all.lines.items) (sym w.done-is)
                (subst (AreNumberedLines ns (joined (take c.loop-place.done xs)))
                (sym (ap (λ a. a.lines.items) w.all-is)) c.loop-place.invariant.numbered);
            at = ap (λ a. a.at.items) w.all-is ∙ c.loop-place.invariant.at
                ∙ ap (λ n. line_numbers_in (joined (take n xs))) (sym w.done-is);
          }
    ]
