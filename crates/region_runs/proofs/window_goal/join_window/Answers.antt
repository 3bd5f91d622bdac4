use Rattle.std.proofs.Common.{◌∙◌, Some, ap, arith, sym}
use Rattle.std.proofs.lemmas.Option.{slice_get-get_or, slice_get_within}
use Rattle.region_runs.proofs.Joins.{joined_more, joined_skip, next_within}
use Rattle.region_runs.proofs.window_goal.join_window.Goals as goal

pub loop-place-preserved-then-not-is_open : goal.loop-place-preserved-then-not-is_open
loop-place-preserved-then-not-is_open g c =
    joined_skip _ _ _ _ _ c.loop-place.kept c.loop-place.place _ c.index-kept-place.result
    c.loop-place.invariant (omega (arith, c.loop-place-test.true)) c.index-kept-place.is
    (ap (g.A.Goal.wants c.args.goal.now) c.index-kept-place.is ∙ sym c.is_open.ensures
    ∙ c.if-not-is_open.true)

pub offset_bounds-found-next : goal.offset_bounds-found-next
offset_bounds-found-next g c =
    let low = next_within _ _ _ _ _ c.loop-place.kept c.loop-place.place _
    c.index-kept-place.result c.loop-place.invariant (omega (arith, c.loop-place-test.true))
    c.index-kept-place.is (ap (g.A.Goal.wants c.args.goal.now) c.index-kept-place.is
    ∙ sym c.is_open.ensures ∙ c.if-not-is_open.false) in
    omega (arith, low, c.requires.found)

pub bounds-found-next : goal.bounds-found-next
bounds-found-next g c =
    let low = next_within _ _ _ _ _ c.loop-place.kept c.loop-place.place _
    c.index-kept-place.result c.loop-place.invariant (omega (arith, c.loop-place-test.true))
    c.index-kept-place.is (ap (g.A.Goal.wants c.args.goal.now) c.index-kept-place.is
    ∙ sym c.is_open.ensures ∙ c.if-not-is_open.false) in
    omega (arith, low, c.requires.found)

pub loop-place-preserved : goal.loop-place-preserved
loop-place-preserved g c =
    let later = c.index-found-next.result in
    let on = ap (g.A.Goal.wants c.args.goal.now) c.index-kept-place.is ∙ sym c.is_open.ensures
    ∙ c.if-not-is_open.false in
    let low = next_within _ _ _ _ _ c.loop-place.kept c.loop-place.place _
    c.index-kept-place.result c.loop-place.invariant (omega (arith, c.loop-place-test.true))
    c.index-kept-place.is on in
    joined_more _ _ _ _ _ c.loop-place.kept c.loop-place.place _ c.index-kept-place.result
    c.loop-place.invariant (omega (arith, c.loop-place-test.true)) c.index-kept-place.is later
    c.join_at.new.kept on (slice_get-get_or c.args.found.now c.loop-place.next later
    (omega (arith, low, c.requires.found)) ∙ ap Some (sym c.index-found-next.is))
    c.join_at.ensures.places c.join_at.ensures.others c.join_at.ensures.joined

pub returns : goal.returns
returns g c = record {
  count = c.loop-place.invariant.count;
  each = λ k old new a b.
      let low = slice_get_within c.args.kept.now k old a in
      c.loop-place.invariant.each k old new (omega (
        arith,
        low,
        c.loop-place-test.false,
        c.loop-place.auto.place-end,
        c.loop-place.invariant.count,
      )) a b;
}
