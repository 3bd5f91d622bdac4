use Rattle.std.proofs.Common.{◌≡◌, ◌<◌, ◌≤◌, ◌∙◌, ℕ, ap, arith, length, subst, List}
use Rattle.std.specs.Prelude.{Result, Some, slice_get}
use Rattle.byte_output.specs.declared.OutFailed.{OutFailed}
use Rattle.threaded_lines.specs.{declared.in_threads.Stretch.Stretch, Stretches.HasStretch}
use Rattle.threaded_lines.proofs.LinesOfStretches.{each_and_one, each_of_pushed, of_each}
use Rattle.threaded_lines.proofs.in_threads.fn.share_lines.scope.Goals as goal

pub loop-thread-preserved : goal.loop-thread-preserved
loop-thread-preserved g c =
    let was = c.loop-thread.invariant in
    let old = c.loop-thread.handles in
    record {
      low = subst (λ n. c.end_of-start.result ≤ n) c.count.ensures c.end_of-start.ensures.within;
      each = λ k d lt. each_of_pushed (λ h. h.promise.lines.value ≡ c.captures.lines.now) old.items
          c.push.new.self.items c.in-Ok.handle c.in_ok-push.ensures.items
          (λ i e less. was.each i e (omega (arith, less, old.ok.0)))
          (ap (λ p. p.lines.value) c.in-Ok.ensures.ok ∙ c.of.ensures) k d
          (omega (arith, lt, c.in_ok-push.ensures.len, old.ok.0));
    }

same_texts : (ts us : List (List ℕ)) (r : Result Stretch OutFailed) → ts ≡ us → HasStretch ts r
    → HasStretch us r
same_texts ts us r is has = rw (← is) has

pub returns : goal.returns
returns g c =
    let was = c.loop-thread.invariant in
    let hs = c.loop-thread.handles in
    let joined = c.in-Ok-join_promised in
    let ts = g.L.FaultLines.texts c.captures.lines.now in
    let theirs : (i : ℕ) (part : Result Stretch OutFailed)
    → slice_get joined.parts.items i ≡ Some part → HasStretch ts part =
    of_each (HasStretch ts) joined.parts.items (λ i d lt.
    let within : i < length hs.items = omega (
      arith,
      lt,
      joined.parts.ok.0,
      joined.ensures.len,
      hs.ok.0,
    ) in
    let k = (joined.ensures.each i d (omega (arith, within, hs.ok.0))).1 in
    let at = was.each i k.handle (omega (arith, within, hs.ok.0)) in
    same_texts (g.L.FaultLines.texts k.handle.promise.lines.value) ts _
    (ap g.L.FaultLines.texts (ap (λ h. h.promise.lines.value) k.handle_is ∙ at)) k.kept) in
    λ i part at. each_and_one (HasStretch ts) joined.parts.items c.stretch_of-own.result theirs
    c.stretch_of-own.ensures i part
    (subst (λ xs. slice_get xs i ≡ Some part) c.in_ok-push-2.ensures.items at)
