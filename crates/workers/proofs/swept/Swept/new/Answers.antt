use Rattle.std.proofs.Common.{◌≡◌, ◌∙◌, ap, arith, length, rules, subst, sym, None, List, ℕ}
use Rattle.std.specs.Prelude.{slice_get, slice_index}
use Rattle.std.proofs.lemmas.Option.{get_or_from_slice_get, slice_get_within}
use Rattle.block_sim.specs.Listed.{IsListed}
use Rattle.region_sim.specs.{ClassOrder.classes_of, RegionHits.ServesRegions}
use Rattle.workers.specs.Swept.{IsSweptFirst}
use Rattle.workers.proofs.SweptBlocks.{none_below, placed_row, replicated}
use Rattle.workers.proofs.swept.Swept.new.Goals as goal

pub returns : goal.returns
returns c =
    let job = c.args.job.now in
    let classes = c.in_ok-order.order.classes.items in
    let rows = c.in_ok-rows.rows.items in
    let same : classes_of rows ≡ classes = c.in_ok-rows.ensures.same ∙ c.deref.ensures.value in
    let long : c.len-count.result ≡ length rows =
    omega (arith, c.len-count.ensures, c.in_ok-rows.rows.ok.0) in
    let items = c.in_ok-firsts.ensures.items_if_clones_equal (λ y is. search rules) in
    record {
      fits = c.in_ok-workspace.ensures.fits;
      serves = subst (ServesRegions c.make_room.new.self job) long
          (c.in_ok-make_room.ensures.serves job c.in_ok-simulation.ensures.serves);
      listed = c.in_ok-rows.ensures.each;
      count = omega (arith, c.in_ok-firsts.ensures.len, c.in_ok-firsts.firsts.ok.0, long);
      nexts = c.in_ok-next.ensures.count ∙ long;
      next = c.in_ok-next.ensures.next;
      numbers = c.in_ok-order.ensures.count;
      placed = λ class lt. placed_row rows
          (slice_index c.in_ok-order.order.positions.items class) class (ap (λ (l : List ℕ).
          slice_get l (slice_index c.in_ok-order.order.positions.items class)) same
          ∙ c.in_ok-order.ensures.positions.each class (omega (
            arith,
            lt,
            c.in_ok-order.ensures.count,
          )));
      found = λ k row first at is.
          let low = slice_get_within rows k row at in
          let none : first ≡ None = replicated c.len-count.result k None first
          (ap (λ l. slice_get l k) (sym items) ∙ is) (omega (arith, low, long)) in
          let listed = subst (IsListed job) (get_or_from_slice_get rows k row row at)
          (c.in_ok-rows.ensures.each k row low) in
          subst (IsSweptFirst job 0 row.class) (sym none)
          (none_below job row.class c.classes-parts.ensures.together listed.within);
    }
