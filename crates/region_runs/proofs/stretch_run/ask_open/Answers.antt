use Rattle.std.proofs.Common.{◌≡◌, ◌+◌, ◌∙◌, ap, arith, inl, inr, subst, sym}
use Rattle.std.specs.Prelude.{Some, slice_get}
use Rattle.std.proofs.lemmas.Bool.{cases_eq, cases_lt, false≢true}
use Rattle.std.proofs.lemmas.Option.{slice_get-get_or}
use Rattle.flat_circuit.specs.declared.origin.ListedClass.{ListedClass}
use Rattle.region_sim.specs.OpenPlaces.{AreNextOpen, AreSettled}
use Rattle.region_runs.proofs.OpenClasses.{left_out, not_settled, settled_over}
use Rattle.region_runs.proofs.stretch_run.ask_open.Goals as goal

pub loop-place-preserved-then-not-is_open : goal.loop-place-preserved-then-not-is_open
loop-place-preserved-then-not-is_open g c =
    let wants = g.A.Goal.wants c.args.goal.now in
    let rows = c.args.rows.now in
    let kept = c.args.kept.now in
    let place = c.loop-place.place in
    let before = c.loop-place.before in
    let last = c.loop-place.invariant in
    let to = c.leave_out-place.result in
    let is = c.leave_out-place.ensures.following in
    let up = last.next.following place to is in
    let one = c.index-kept-place.result in
    let count = c.requires.kept in
    let here : slice_get kept place ≡ Some one =
    slice_get-get_or kept place one (omega (arith, count, c.loop-place-test.true))
    ∙ ap Some (sym c.index-kept-place.is) in
    let closed = sym c.is_open.ensures ∙ c.if-not-is_open.true in
    let settled : AreSettled wants kept place to = settled_over wants kept place place to one
    (λ k le lt. absurd (omega (arith, le, lt))) here closed (last.next.between place to is) in
    let gap : AreSettled wants kept (before + 1) to = settled_over wants kept (before + 1) place to
    one last.between here closed (last.next.between place to is) in
    let low = last.low in
    let next = last.next.count in
    let end = last.next.within place to is in
    record {
      low = omega (arith, low, up);
      within = omega (arith, end, count);
      next = subst (AreNextOpen wants kept) (sym c.leave_out-place.ensures.left_out)
          (left_out wants kept c.loop-place.next before place to
          (omega (arith, count, next, low, c.loop-place-test.true)) low is gap last.next);
      between = gap;
      asked = λ k row lt idle must. (elim (cases_lt k place) [
        | inl x ↦ last.asked k row x idle must
        | inr x ↦ not_settled wants rows kept place to k row settled x lt idle
      ]);
    }

pub loop-place-preserved : goal.loop-place-preserved
loop-place-preserved g c =
    let wants = g.A.Goal.wants c.args.goal.now in
    let rows = c.args.rows.now in
    let kept = c.args.kept.now in
    let place = c.loop-place.place in
    let last = c.loop-place.invariant in
    let to = c.next_open-place.result in
    let step = c.next_open-place.ensures in
    let up = last.next.following place to step in
    let end = last.next.within place to step in
    let between = last.next.between place to step in
    let count = c.requires.kept in
    let one = c.row_at.result in
    record {
      low = omega (arith, up);
      within = omega (arith, end, count);
      next = last.next;
      between = between;
      asked = λ k row lt idle must. (elim (cases_lt k place) [
        | inl x ↦ last.asked k row x idle must
        | inr x ↦ elim (cases_eq k place) [
          | inl same ↦ (let both : Some row ≡ Some one =
              sym idle.row_is ∙ (ap (slice_get rows) same ∙ c.row_at.ensures) in
              let is : row ≡ one = cc in
              let off = c.pass.ensures.shut (subst (λ (r : ListedClass).
              (g.G.Gate.stops c.args.gate.now).must c.args.worker r.class c.args.block) is
              must) in
              false≢true (sym off ∙ c.if-not-pass.false))
          | inr ne ↦ not_settled wants rows kept (place + 1) to k row between
              (omega (arith, x, ne)) lt idle
        ]
      ]);
    }

pub returns-then-not-pass-clause-stopped : goal.returns-then-not-pass-clause-stopped
returns-then-not-pass-clause-stopped g c = λ low. (
  c.row_at.result,
  record {
    row_is = c.row_at.ensures;
    one = c.index-kept-place.result;
    kept_is = slice_get-get_or c.args.kept.now c.loop-place.place c.index-kept-place.result
        (omega (arith, c.requires.kept, c.loop-place-test.true))
        ∙ ap Some (sym c.index-kept-place.is);
    wanted = sym c.is_open.ensures ∙ c.if-not-is_open.false;
  },
  c.pass.ensures.stopped c.if-not-pass.true,
)
