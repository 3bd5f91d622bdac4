use Rattle.std.{proofs.Common.{◌≡◌, ◌∙◌, ap, subst, sym}, specs.List.All}
use Rattle.std.proofs.lemmas.List.Elements.{All-head, All-push, All-tail}
use Rattle.bench_net.specs.reader.Parsed.{names_of}
use Rattle.bench_threads.specs.Stretches.{AreFirst, HasStretch, IsRange}
use Rattle.bench_threads.proofs.reading.fn.read_stretches.scope.Goals.{
  then-turn-count+in-Ok+in_ok-push_back,
}
use Rattle.bench_threads.proofs.reading.fn.read_stretches.scope.Goals.{else-turn-count}
use Rattle.bench_threads.proofs.reading.fn.read_stretches.scope.Goals.{
  then-turn-threads+in-Some+in_ok-first-2,
}
use Rattle.bench_threads.proofs.reading.fn.read_stretches.scope.Goals.{else-turn-threads}
use Rattle.bench_threads.proofs.reading.fn.read_stretches.scope.Goals as goal

pub with-requires : goal.with-requires
with-requires g c =
    let each : All (λ h. h.promise.text.now ≡ c.captures.text.now) c.if-turn-count.handles.items
    = elim c.if-turn-count.branch [
      | then-turn-count+in-Ok+in_ok-push_back w ↦
          subst (All (λ h. h.promise.text.now ≡ c.captures.text.now))
          (sym (ap (λ d. d.items) w.handles-is ∙ w.in_ok-push_back.ensures.items))
          (All-push (λ h. h.promise.text.now ≡ c.captures.text.now) c.loop-turn.handles.items
          w.in-Ok.handle c.loop-turn.invariant.each (ap (λ p. p.text.now) w.in-Ok.ensures.ok))
      | else-turn-count w ↦ subst (All (λ h. h.promise.text.now ≡ c.captures.text.now))
          (sym (ap (λ d. d.items) w.handles-is)) c.loop-turn.invariant.each
    ] in
    let own = All-head (λ h. h.promise.text.now ≡ c.captures.text.now) c.in-Some.handle
    c.pop_front.new.self.items
    (subst (All (λ h. h.promise.text.now ≡ c.captures.text.now)) c.in-Some.ensures.items each) in
    record {
      first = c.loop-turn.invariant.first;
      part = subst (λ l. HasStretch l c.join.result) (own ∙ sym c.loop-turn.invariant.text)
          c.join.ensures;
    }

pub loop-turn-preserved : goal.loop-turn-preserved
loop-turn-preserved g c =
    let each : All (λ h. h.promise.text.now ≡ c.captures.text.now) c.if-turn-count.handles.items
    × IsRange c.captures.text.now c.if-turn-count.range.start c.if-turn-count.range.end
    c.if-turn-count.range.before
    = elim c.if-turn-count.branch [
      | then-turn-count+in-Ok+in_ok-push_back w ↦ (
        subst (All (λ h. h.promise.text.now ≡ c.captures.text.now))
            (sym (ap (λ d. d.items) w.handles-is ∙ w.in_ok-push_back.ensures.items))
            (All-push (λ h. h.promise.text.now ≡ c.captures.text.now) c.loop-turn.handles.items
            w.in-Ok.handle c.loop-turn.invariant.each (ap (λ p. p.text.now) w.in-Ok.ensures.ok)),
        subst (λ r. IsRange c.captures.text.now r.start r.end r.before) (sym w.range-is)
            w.next-range.ensures,
      )
      | else-turn-count w ↦ (
        subst (All (λ h. h.promise.text.now ≡ c.captures.text.now))
            (sym (ap (λ d. d.items) w.handles-is)) c.loop-turn.invariant.each,
        subst (λ r. IsRange c.captures.text.now r.start r.end r.before) (sym w.range-is)
            c.loop-turn.invariant.range,
      )
    ] in
    elim c.if-turn-threads.branch [
      | then-turn-threads+in-Some+in_ok-first-2 w ↦ record {
        range = each.1;
        text = ap (λ f. f.text.now) w.first-is ∙ w.in_ok-first-2.ensures.text
            ∙ c.loop-turn.invariant.text;
        first = subst (λ f. AreFirst f.text.now f.end f.stretches.items (names_of f.names.keys)
            f.counts) (sym w.first-is) w.in_ok-first-2.ensures.first;
        each = subst (All (λ h. h.promise.text.now ≡ c.captures.text.now))
            (sym (ap (λ d. d.items) w.handles-is))
            (All-tail (λ h. h.promise.text.now ≡ c.captures.text.now) w.in-Some.handle
            w.pop_front.new.self.items (subst (All (λ h. h.promise.text.now ≡ c.captures.text.now))
            w.in-Some.ensures.items each.0));
      }
      | else-turn-threads w ↦ record {
        range = each.1;
        text = ap (λ f. f.text.now) w.first-is ∙ c.loop-turn.invariant.text;
        first = subst (λ f. AreFirst f.text.now f.end f.stretches.items (names_of f.names.keys)
            f.counts) (sym w.first-is) c.loop-turn.invariant.first;
        each = subst (All (λ h. h.promise.text.now ≡ c.captures.text.now))
            (sym (ap (λ d. d.items) w.handles-is)) each.0;
      }
    ]
