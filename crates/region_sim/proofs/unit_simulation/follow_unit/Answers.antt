use Rattle.std.proofs.Common.{◌≡◌, ◌⊎◌, ◌+◌, ◌<◌, ◌≤◌, ◌∙◌, ℕ, List, [], ap, arith, inl, inr}
use Rattle.std.proofs.{Common.{length, refl, sym, subst}, lemmas.Option.slice_get-get_or}
use Rattle.std.specs.Prelude.{Contains, Some, slice_get, slice_index_or}
use Rattle.bench_net.specs.Statement.{Statement}
use Rattle.fault_model.specs.Reordered.{place}
use Rattle.flat_circuit.specs.{declared.origin.ListedClass.ListedClass, Readers.IsObserved}
use Rattle.region_sim.specs.{declared.unit_simulation.UnitClass.UnitClass, OpenPlaces.AreSettled}
use Rattle.region_sim.specs.{Goals.HasTakenAt, RegionHits.HaveStem, Units.unit_span}
use Rattle.region_sim.{specs.UnitHits.{HaveArrivedInUnit, IsClassAt}, proofs.FollowedRows.each_over}
use Rattle.region_sim.proofs.FollowedUnits.{arrived_more, as_many, at_more, at_over, closed_more}
use Rattle.region_sim.proofs.FollowedUnits.{one_more, open_more, order_more, others_more}
use Rattle.region_sim.proofs.FollowedUnits.{still_more, taken_more}
use Rattle.region_sim.proofs.RegionHits.{listed_at, member_at, others_over, settled_from}
use Rattle.region_sim.proofs.RegionHits.{stems_more, stems_over}
use Rattle.region_sim.proofs.unit_simulation.follow_unit.Goals as goal

-- two rows at one place have one stem
same_stem : (xs : ListedClass) (ys : ListedClass) → Some xs ≡ Some ys → xs.stem ≡ ys.stem
same_stem xs ys e = let one : xs ≡ ys = cc in ap (λ (x : ListedClass). x.stem) one

-- a stem to which some class came is still not observed
still_hidden : (c : List Statement) (first stem : ℕ) (was new : List UnitClass) → stem ≡ first
    → (was ≡ []) ⊎ (IsObserved c first → ⊥) → (new ≡ was) ⊎ (IsObserved c stem → ⊥)
    → (new ≡ []) ⊎ (IsObserved c first → ⊥)
still_hidden c first stem was new same (inr h) step = inr h
still_hidden c first stem was new same (inl e) (inl f) = inl (f ∙ e)
still_hidden c first stem was new same (inl e) (inr h) =
    inr (λ o. h (subst (IsObserved c) (sym same) o))

-- no class has come yet
none_has : {A : Type 0} (classes : List UnitClass) (one : UnitClass) → classes ≡ []
    → Contains classes one → A
none_has classes one none there =
    let lt = there.1 in let e = ap length none in absurd (omega (arith, lt, e))

from_first : (from p : ℕ) (classes : List UnitClass)
    → (from < p) ⊎ ((p ≡ from) × (classes ≡ [])) → from ≤ p
from_first from p classes (inl lt) = omega (arith, lt)
from_first from p classes (inr first) = let e = first.0 in omega (arith, e)

pub loop-place-init : goal.loop-place-init
loop-place-init g c = record {
  low = inr (refl, c.requires.none);
  within = omega (arith, c.requires.from);
  few = (let e = ap length c.requires.none in omega (arith, e));
  stems = λ place row le lt idle. absurd (omega (arith, le, lt));
  taken = λ place row le lt idle. absurd (omega (arith, le, lt));
  at = λ one there. none_has c.args.classes.now.items one c.requires.none there;
  came_open = λ one there. none_has c.args.classes.now.items one c.requires.none there;
  arrived = λ one there. none_has c.args.classes.now.items one c.requires.none there;
  hidden = inl c.requires.none;
  others = λ place h. refl;
  closed = λ place one is off. refl;
  ordered = λ i k one other lt is there. none_has c.args.classes.now.items one c.requires.none
      (member_at c.args.classes.now.items i one is);
  still = λ one there. none_has c.args.classes.now.items one c.requires.none there;
  places = refl;
  capacity = refl;
  region = c.requires.region;
  same = record { stem = refl; known = refl; path = refl };
}

pub loop-place-smaller-then-not-is_open : goal.loop-place-smaller-then-not-is_open
loop-place-smaller-then-not-is_open g c =
    let up = c.requires.next.following c.loop-place.place c.next_open-place.result
    c.next_open-place.ensures in
    omega (arith, up, c.loop-place-test.true)

pub loop-place-preserved-then-not-is_open : goal.loop-place-preserved-then-not-is_open
loop-place-preserved-then-not-is_open g c =
    let before = c.loop-place.invariant in
    let wants = g.G.Goal.wants c.args.goal.now in
    let rows = c.args.rows.now in
    let first_kept = c.args.kept.now in
    let from = c.args.from in
    let classes = c.loop-place.classes.items in
    let kept = c.loop-place.kept in
    let p = c.loop-place.place in
    let q = c.next_open-place.result in
    let step = c.next_open-place.ensures in
    let up = c.requires.next.following p q step in
    let end = c.requires.next.within p q step in
    let long = c.requires.places in
    let after : from ≤ p = from_first from p classes before.low in
    let le : p ≤ q = omega (arith, up) in
    let within : q ≤ length rows = omega (arith, end, long) in
    let here = before.others p (inr (omega arith)) in
    let places = before.places in
    let own = slice_index_or c.loop-place.kept p c.index-kept-place.result in
    let own_was = slice_get-get_or c.loop-place.kept p c.index-kept-place.result
    (omega (arith, c.loop-place-test.true, places, long)) in
    let settled : AreSettled wants first_kept p q =
    settled_from wants first_kept p q own (sym here ∙ own_was)
    (sym c.is_open.ensures ∙ c.if-not-is_open.true) (c.requires.next.between p q step) in
    record {
      low = inl (omega (arith, after, up));
      within = within;
      few = before.few;
      stems = stems_over wants rows first_kept from p q le settled c.row_at-stem.result.stem
          before.stems;
      taken = each_over wants rows first_kept from p q
          (λ place row. HasTakenAt (g.G.Goal.means c.args.goal.now) c.args.job.now
          (unit_span c.args.group) row first_kept kept place
          ⊎ (IsClassAt classes place × (slice_get kept place ≡ slice_get first_kept place)))
          settled before.taken;
      at = at_over rows from p q classes le before.at;
      came_open = before.came_open;
      ordered = before.ordered;
      still = before.still;
      arrived = before.arrived;
      hidden = before.hidden;
      others = others_over from p q le kept first_kept before.others;
      closed = before.closed;
      places = before.places;
      capacity = before.capacity;
      region = before.region;
      same = before.same;
    }

pub follow_row_in_unit-requires-clause-row : goal.follow_row_in_unit-requires-clause-row
follow_row_in_unit-requires-clause-row g c =
    listed_at c.args.job.now c.args.rows.now c.loop-place.place c.row_at-row.result c.requires.rows
    c.row_at-row.ensures

pub follow_row_in_unit-requires-clause-at : goal.follow_row_in_unit-requires-clause-at
follow_row_in_unit-requires-clause-at g c =
    let first = c.requires.at.0 in
    let same = same_stem first c.row_at-stem.result (sym c.requires.at.1 ∙ c.row_at-stem.ensures) in
    c.loop-place.invariant.same.stem ∙ (c.requires.at.2
    ∙ ap (place c.args.job.now.circuit c.args.view.circuit.now.arranged)
    (same ∙ sym c.if-row-stem.false))

pub loop-place-smaller : goal.loop-place-smaller
loop-place-smaller g c =
    let up = c.requires.next.following c.loop-place.place c.next_open-place-in-loop-place.result
    c.next_open-place-in-loop-place.ensures in
    omega (arith, up, c.loop-place-test.true)

pub loop-place-preserved : goal.loop-place-preserved
loop-place-preserved g c =
    let before = c.loop-place.invariant in
    let wants = g.G.Goal.wants c.args.goal.now in
    let means = g.G.Goal.means c.args.goal.now in
    let job = c.args.job.now in
    let group = c.args.group in
    let rows = c.args.rows.now in
    let first_kept = c.args.kept.now in
    let from = c.args.from in
    let stem = c.row_at-stem.result.stem in
    let p = c.loop-place.place in
    let row = c.row_at-row.result in
    let is = c.row_at-row.ensures in
    let was = c.loop-place.classes.items in
    let classes = c.follow_row_in_unit.new.classes.items in
    let old = c.loop-place.kept in
    let now = c.follow_row_in_unit.new.kept in
    let after : from ≤ p = from_first from p was before.low in
    let here = before.others p (inr (omega arith)) in
    let step = c.follow_row_in_unit.ensures.taken in
    let of : row.stem ≡ stem = c.if-row-stem.false in
    let count : length was < 256 = (let all = ap length c.as_slice-count.ensures.value in
    omega (arith, all, c.if-count-ge-MOST.false)) in
    let q = c.next_open-place-in-loop-place.result in
    let next = c.next_open-place-in-loop-place.ensures in
    let up = c.requires.next.following p q next in
    let end = c.requires.next.within p q next in
    let settled = c.requires.next.between p q next in
    let long = c.requires.places in
    let le : p + 1 ≤ q = omega (arith, up) in
    let within : q ≤ length rows = omega (arith, end, long) in
    let places = before.places in
    let own = slice_index_or old p c.index-kept-place.result in
    let own_was = slice_get-get_or old p c.index-kept-place.result
    (omega (arith, c.loop-place-test.true, places, long)) in
    let own_wanted = sym c.is_open.ensures ∙ c.if-not-is_open.false in
    let own_first = sym here ∙ own_was in
    record {
      low = inl (omega (arith, after, up));
      within = within;
      few = (let more = one_more wants means job group row p was classes old now step in
          omega (arith, more, count));
      stems = stems_over wants rows first_kept from (p + 1) q le settled stem
          (stems_more wants rows first_kept from p stem row is of before.stems);
      taken = each_over wants rows first_kept from (p + 1) q
          (λ place one. HasTakenAt means job (unit_span group) one first_kept now place
          ⊎ (IsClassAt classes place × (slice_get now place ≡ slice_get first_kept place))) settled
          (taken_more wants means job group row p was classes old now step rows first_kept from is
          here before.taken);
      at = at_over rows from (p + 1) q classes le
          (at_more wants means job group row p was classes old now step rows from after is
          before.at);
      came_open = open_more wants means job group row p was classes old now step first_kept own
          own_first own_wanted before.came_open;
      ordered = order_more wants means job group row p was classes old now step rows from after is
          before.at before.ordered;
      still = still_more wants means job group row p was classes old now step rows from after is
          before.at first_kept here before.still;
      arrived = arrived_more wants means job group row p was classes old now step stem of
          before.arrived;
      hidden = still_hidden c.args.view.circuit.now.arranged c.args.region.now.stem
          c.loop-place.region.stem was classes before.same.stem before.hidden
          c.follow_row_in_unit.ensures.hidden;
      others = others_over from (p + 1) q le now first_kept
          (others_more wants means job group row p was classes old now step from first_kept after
          before.others);
      closed = closed_more wants means job group row p was classes old now step first_kept own
          own_first own_wanted before.closed;
      places = as_many wants means job group row p was classes old now step ∙ before.places;
      capacity = c.follow_row_in_unit.ensures.capacity ∙ before.capacity;
      region = c.follow_row_in_unit.ensures.region;
      same = (let next = c.follow_row_in_unit.ensures.same in record {
        stem = next.stem ∙ before.same.stem;
        known = next.known ∙ before.same.known;
        path = next.path ∙ before.same.path;
      });
    }

pub returns-then-row-stem-clause-arrived : goal.returns-then-row-stem-clause-arrived
returns-then-row-stem-clause-arrived g c = λ first is.
    subst (λ s. HaveArrivedInUnit c.args.job.now c.args.group s c.loop-place.classes.items)
    (same_stem c.row_at-stem.result first (sym c.row_at-stem.ensures ∙ is))
    c.loop-place.invariant.arrived

pub returns-clause-arrived : goal.returns-clause-arrived
returns-clause-arrived g c = λ first is.
    subst (λ s. HaveArrivedInUnit c.args.job.now c.args.group s c.loop-place.classes.items)
    (same_stem c.row_at-stem.result first (sym c.row_at-stem.ensures ∙ is))
    c.loop-place.invariant.arrived

pub returns-then-row-stem-clause-stem : goal.returns-then-row-stem-clause-stem
returns-then-row-stem-clause-stem g c = λ first is.
    subst (HaveStem (g.G.Goal.wants c.args.goal.now) c.args.rows.now c.args.kept.now c.args.from
    c.loop-place.place) (same_stem c.row_at-stem.result first (sym c.row_at-stem.ensures ∙ is))
    c.loop-place.invariant.stems

pub returns-clause-stem : goal.returns-clause-stem
returns-clause-stem g c = λ first is.
    subst (HaveStem (g.G.Goal.wants c.args.goal.now) c.args.rows.now c.args.kept.now c.args.from
    c.loop-place.place) (same_stem c.row_at-stem.result first (sym c.row_at-stem.ensures ∙ is))
    c.loop-place.invariant.stems
