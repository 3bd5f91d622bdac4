use Rattle.std.proofs.Common.{◌≡◌, ◌≢◌, ◌⊎◌, ◌+◌, ◌≤◌, ◌∙◌, ℕ, List, ap, arith, inl, inr, length}
use Rattle.std.{proofs.Common.{refl, sym, subst}, specs.Prelude.{Some, slice_get, slice_index_or}}
use Rattle.std.proofs.lemmas.Option.{slice_get-get_or, slice_get_within}
use Rattle.flat_circuit.specs.{declared.origin.ListedClass.ListedClass, Readers.IsObserved}
use Rattle.region_sim.specs.{OpenPlaces.{AgreeFrom, AreSettled}, RegionHits.{HasAdded, HaveStem}}
use Rattle.region_sim.{specs.Sensitized.HasBegun, proofs.PackedRegions.{added_more, added_none}}
use Rattle.region_sim.proofs.RegionHits.{as_many, at_more, at_over, closed_more, listed_at}
use Rattle.region_sim.proofs.RegionHits.{open_more, order_more, others_more, others_over}
use Rattle.region_sim.proofs.RegionHits.{settled_from, settled_there, stems_more, stems_over}
use Rattle.region_sim.proofs.RegionHits.{still_more, taken_more, taken_over}
use Rattle.bench_net.specs.Statement.{Statement}
use Rattle.block_sim.specs.declared.propagation.Followed.{Followed}
use Rattle.block_sim.proofs.Public.{large_enough, large_on}
use Rattle.region_sim.proofs.region_simulation.follow_region.Goals as goal

-- the first row of the region, as it was begun with
same_first : (xs : ListedClass) (ys : ListedClass) → Some xs ≡ Some ys → xs.stem ≡ ys.stem
same_first xs ys e = let one : xs ≡ ys = cc in ap (λ (x : ListedClass). x.stem) one

-- a stem to which some class came is still not observed
still_hidden : (c : List Statement) (first stem : ℕ) (old was new : List Followed) → stem ≡ first
    → (was ≡ old) ⊎ (IsObserved c first → ⊥) → (new ≡ was) ⊎ (IsObserved c stem → ⊥)
    → (new ≡ old) ⊎ (IsObserved c first → ⊥)
still_hidden c first stem old was new same (inr h) step = inr h
still_hidden c first stem old was new same (inl e) (inl f) = inl (f ∙ e)
still_hidden c first stem old was new same (inl e) (inr h) =
    inr (λ o. h (subst (IsObserved c) (sym same) o))

pub loop-place-init : goal.loop-place-init
loop-place-init g c = record {
  low = omega arith;
  within = omega (arith, c.requires.within);
  stems = λ place row le lt idle. absurd (omega (arith, le, lt));
  taken = λ first before le agree was. was;
  still = λ first before le agree at was. was;
  ordered = λ first le at was. was;
  at = λ first le before. before;
  added = added_none c.args.job.now c.args.span c.row_at-stem.result.stem c.args.followed.now.items;
  others = λ place h. refl;
  closed = λ place one is off. refl;
  idle = λ before agree was. was;
  hidden = inl refl;
  begun = subst (λ s. HasBegun c.args.job.now c.args.view s c.args.region.now)
      (same_first c.requires.begun.0 c.row_at-stem.result
      (sym c.requires.begun.1 ∙ c.row_at-stem.ensures)) c.requires.begun.2;
  same = record { stem = refl; lanes = refl; known = refl; path = refl };
  places = refl;
  few = omega (arith, c.requires.len);
  capacity = refl;
  room = record { overlay = refl; gates = refl };
  clear = c.requires.clear;
}

pub loop-place-smaller-then-not-is_open : goal.loop-place-smaller-then-not-is_open
loop-place-smaller-then-not-is_open g c =
    let up = c.requires.next.following c.loop-place.place c.next_open-place.result
    c.next_open-place.ensures in
    omega (arith, up, c.loop-place-test.true)

pub loop-place-preserved-then-not-is_open : goal.loop-place-preserved-then-not-is_open
loop-place-preserved-then-not-is_open g c =
    let before = c.loop-place.invariant in
    let wants = g.G.Goal.wants c.args.goal.now in
    let rows = c.args.rows.now in
    let first_kept = c.args.kept.now in
    let from = c.args.from in
    let p = c.loop-place.place in
    let q = c.next_open-place.result in
    let step = c.next_open-place.ensures in
    let up = c.requires.next.following p q step in
    let end = c.requires.next.within p q step in
    let long = c.requires.places in
    let low = before.low in
    let le : p ≤ q = omega (arith, up) in
    let within : q ≤ length rows = omega (arith, end, long) in
    let here = before.others p (inr (omega arith)) in
    let places = before.places in
    let own = slice_index_or c.loop-place.kept p c.index-kept-place.result in
    let own_was = slice_get-get_or c.loop-place.kept p c.index-kept-place.result
    (omega (arith, c.loop-place-test.true, places, long)) in
    let settled : AreSettled wants first_kept p q =
    settled_from wants first_kept p q own (sym here ∙ own_was)
    (sym c.is_open.ensures ∙ c.if-not-is_open.true) (c.requires.next.between p q step) in
    let there = λ (l : List _) (agree : AgreeFrom from l first_kept).
    settled_there wants from p q l first_kept low agree settled in
    record {
      low = omega (arith, low, up);
      within = within;
      stems = stems_over wants rows first_kept from p q le settled c.row_at-stem.result.stem
          before.stems;
      taken = λ first was up agree so. taken_over wants rows was first p q le (there was agree)
          (g.G.Goal.means c.args.goal.now) c.args.job.now c.args.span c.loop-place.followed.items
          c.loop-place.kept (before.taken first was up agree so);
      at = λ first up was. at_over rows first p q le c.loop-place.followed.items
          (before.at first up was);
      added = before.added;
      still = before.still;
      ordered = before.ordered;
      others = others_over from p q le c.loop-place.kept first_kept before.others;
      closed = before.closed;
      idle = before.idle;
      hidden = before.hidden;
      begun = before.begun;
      same = before.same;
      places = before.places;
      few = (let f = before.few in omega (arith, f, up));
      capacity = before.capacity;
      room = before.room;
      clear = before.clear;
    }

pub follow_row-requires-clause-room : goal.follow_row-requires-clause-room
follow_row-requires-clause-room g c =
    large_enough c.args.job.now.circuit c.args.changes.now c.loop-place.changes c.requires.room
    c.loop-place.invariant.room

pub follow_row-requires-clause-row : goal.follow_row-requires-clause-row
follow_row-requires-clause-row g c =
    listed_at c.args.job.now c.args.rows.now c.loop-place.place c.row_at-row.result c.requires.rows
    c.row_at-row.ensures

pub follow_row-requires-clause-begun : goal.follow_row-requires-clause-begun
follow_row-requires-clause-begun g c =
    subst (λ s. HasBegun c.args.job.now c.args.view s c.loop-place.region)
    (sym (omega (arith, c.if-row-stem.false))) c.loop-place.invariant.begun

pub loop-place-smaller : goal.loop-place-smaller
loop-place-smaller g c =
    let up = c.requires.next.following c.loop-place.place c.next_open-place-in-loop-place.result
    c.next_open-place-in-loop-place.ensures in
    omega (arith, up, c.loop-place-test.true)

pub loop-place-preserved : goal.loop-place-preserved
loop-place-preserved g c =
    let before = c.loop-place.invariant in
    let wants = g.G.Goal.wants c.args.goal.now in
    let means = g.G.Goal.means c.args.goal.now in
    let job = c.args.job.now in
    let span = c.args.span in
    let rows = c.args.rows.now in
    let first_kept = c.args.kept.now in
    let from = c.args.from in
    let stem = c.row_at-stem.result.stem in
    let p = c.loop-place.place in
    let row = c.row_at-row.result in
    let is = c.row_at-row.ensures in
    let was = c.loop-place.followed.items in
    let followed = c.follow_row.new.followed.items in
    let old = c.loop-place.kept in
    let now = c.follow_row.new.kept in
    let lt = c.loop-place-test.true in
    let after = before.low in
    let here = before.others p (inr (omega arith)) in
    let step = c.follow_row.ensures.taken in
    let listed = listed_at job rows p row c.requires.rows is in
    let of : row.stem ≡ stem = omega (arith, c.if-row-stem.false) in
    let q = c.next_open-place-in-loop-place.result in
    let next = c.next_open-place-in-loop-place.ensures in
    let up = c.requires.next.following p q next in
    let end = c.requires.next.within p q next in
    let settled = c.requires.next.between p q next in
    let long = c.requires.places in
    let le : p + 1 ≤ q = omega (arith, up) in
    let within : q ≤ length rows = omega (arith, end, long) in
    let places = before.places in
    let own = slice_index_or old p c.index-kept-place.result in
    let own_was = slice_get-get_or old p c.index-kept-place.result
    (omega (arith, c.loop-place-test.true, places, long)) in
    let own_wanted = sym c.is_open.ensures ∙ c.if-not-is_open.false in
    let own_first = sym here ∙ own_was in
    record {
      low = omega (arith, after, up);
      within = within;
      stems = stems_over wants rows first_kept from (p + 1) q le settled stem
          (stems_more wants rows first_kept from p stem row is of before.stems);
      taken = λ first l up_first agree so.
          let later : first ≤ p = omega (arith, up_first, after) in
          taken_over wants rows l first (p + 1) q le
          (settled_there wants from (p + 1) q l first_kept (omega (arith, after)) agree settled)
          means job span followed now
          (taken_more wants means job span rows first p row was followed old now is later step l
          (here ∙ agree p after) (before.taken first l up_first agree so));
      still = λ first l up_first agree at so.
          let later : first ≤ p = omega (arith, up_first, after) in
          still_more wants means job span rows first p row was followed old now is later step l
          (here ∙ agree p after) (before.at first up_first at)
          (before.still first l up_first agree at so);
      ordered = λ first up_first at so.
          let later : first ≤ p = omega (arith, up_first, after) in
          order_more wants means job span rows first p row was followed old now is later step
          (before.at first up_first at) (before.ordered first up_first at so);
      at = λ first up_first was_at.
          let later : first ≤ p = omega (arith, up_first, after) in
          at_over rows first (p + 1) q le followed
          (at_more wants means job span rows first p row was followed old now is later step
          (before.at first up_first was_at));
      added = added_more means job span row p stem c.args.followed.now.items was followed old now
          step of listed.within before.added;
      others = others_over from (p + 1) q le now first_kept
          (others_more wants means job span rows from p row was followed old now is after step
          first_kept before.others);
      closed = closed_more wants means job span rows from p row was followed old now is after step
          first_kept own own_first own_wanted before.closed;
      idle = λ l agree was_idle. open_more wants means job span rows from p row was followed old
          now is after step l own (sym (agree p after) ∙ own_first) own_wanted
          (before.idle l agree was_idle);
      hidden = still_hidden c.args.view.circuit.now.arranged c.args.region.now.stem
          c.loop-place.region.stem c.args.followed.now.items was followed before.same.stem
          before.hidden c.follow_row.ensures.hidden;
      begun = subst (λ s. HasBegun job c.args.view s c.follow_row.new.region) of
          c.follow_row.ensures.begun;
      same = (let next = c.follow_row.ensures.same in record {
        stem = next.stem ∙ before.same.stem;
        lanes = next.lanes ∙ before.same.lanes;
        known = next.known ∙ before.same.known;
        path = next.path ∙ before.same.path;
      });
      places = as_many wants means job span rows from p row was followed old now is after step
          ∙ before.places;
      few = (let f = before.few in let len = c.follow_row.ensures.len in
          omega (arith, f, len, up));
      capacity = c.follow_row.ensures.capacity ∙ before.capacity;
      room = large_on c.args.changes.now c.loop-place.changes c.follow_row.new.changes before.room
          c.follow_row.ensures.room;
      clear = c.follow_row.ensures.clear;
    }

pub returns-then-row-stem-clause-added : goal.returns-then-row-stem-clause-added
returns-then-row-stem-clause-added g c = λ first is.
    subst (λ s. HasAdded c.args.job.now c.args.span s c.args.followed.now.items
    c.loop-place.followed.items)
    (same_first c.row_at-stem.result first (sym c.row_at-stem.ensures ∙ is))
    c.loop-place.invariant.added

pub returns-clause-added : goal.returns-clause-added
returns-clause-added g c = λ first is.
    subst (λ s. HasAdded c.args.job.now c.args.span s c.args.followed.now.items
    c.loop-place.followed.items)
    (same_first c.row_at-stem.result first (sym c.row_at-stem.ensures ∙ is))
    c.loop-place.invariant.added

pub returns-clause-end : goal.returns-clause-end
returns-clause-end g c =
    let rows = c.args.rows.now in
    let last = c.loop-place.invariant in
    record {
      some = omega (arith, c.loop-place-test.false, c.requires.within);
      within = last.within;
      same = λ first is. subst
          (HaveStem (g.G.Goal.wants c.args.goal.now) rows c.args.kept.now c.args.from
          c.loop-place.place)
          (same_first c.row_at-stem.result first (sym c.row_at-stem.ensures ∙ is)) last.stems;
      whole = λ first row is at. (let lt = slice_get_within rows c.loop-place.place row at in
          absurd (omega (arith, lt, c.loop-place-test.false)));
    }

pub returns-then-row-stem-clause-end : goal.returns-then-row-stem-clause-end
returns-then-row-stem-clause-end g c =
    let rows = c.args.rows.now in
    let last = c.loop-place.invariant in
    let from = c.args.from in
    let p = c.loop-place.place in
    let low = last.low in
    let row = c.row_at-row.result in
    let stem = c.row_at-stem.result in
    let differs = c.if-row-stem.true in
    let further : p ≢ from = λ e. differs (same_first row stem
    (sym c.row_at-row.ensures ∙ (ap (slice_get rows) e ∙ c.row_at-stem.ensures))) in
    let places = last.places in
    let here = last.others p (inr (omega arith)) in
    record {
      some = omega (arith, low, further);
      within = last.within;
      same = λ first is. subst
          (HaveStem (g.G.Goal.wants c.args.goal.now) rows c.args.kept.now from p)
          (same_first stem first (sym c.row_at-stem.ensures ∙ is)) last.stems;
      whole = λ first other is at. (
        record {
          row_is = at;
          one = slice_index_or c.loop-place.kept p c.index-kept-place.result;
          kept_is = sym here ∙ slice_get-get_or c.loop-place.kept p c.index-kept-place.result
              (omega (arith, c.loop-place-test.true, places, c.requires.places));
          wanted = sym c.is_open.ensures ∙ c.if-not-is_open.false;
        },
        λ e. differs (same_first row other (sym c.row_at-row.ensures ∙ at)
            ∙ (e ∙ same_first first stem (sym is ∙ c.row_at-stem.ensures))),
      );
    }
