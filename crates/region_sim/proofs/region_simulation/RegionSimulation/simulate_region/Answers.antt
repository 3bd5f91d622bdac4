use Rattle.std.proofs.Common.{◌≡◌, ◌∙◌, ◌/◌, All, ap, arith, inl, inr, length, subst, sym}
use Rattle.std.{specs.Prelude.{Contains, Some, slice_get, unwrap_or}, proofs.lemmas.Bool.false≢true}
use Rattle.flat_circuit.{specs.BlockSpans.IsSpan, proofs.Public.count_there}
use Rattle.region_sim.specs.{Pack.IsWithin, Goals.HaveTaken, OpenPlaces.KeepsClosed}
use Rattle.region_sim.specs.RegionHits.{AreGathered, AreInOrder, IsFollowedAt, IsHiddenStem}
use Rattle.region_sim.specs.{RegionHits.ServesRegions, Units.unit_span}
use Rattle.region_sim.proofs.{Arrivals.room_at_rest, PackedRegions.all_slots, RegionHits.all_taken}
use Rattle.region_sim.proofs.UnitSpans.{in_order, sweep_span, sweep_unit, unit_is}
use Rattle.region_sim.proofs.region_simulation.RegionSimulation.simulate_region.Goals.{
  After-flip_all,
}
use Rattle.region_sim.proofs.region_simulation.RegionSimulation.simulate_region.Goals.{
  Else-span-gt1,
}
use Rattle.region_sim.proofs.region_simulation.RegionSimulation.simulate_region.Goals as goal

pub invariant_of-self : goal.invariant_of-self
invariant_of-self g c =
    let before = c.self.invariant in
    let rest = before.regions.rest in
    let unit = c.simulate_unit.ensures.unit in
    let room = c.simulate_unit.ensures.room in
    record {
      regions = record {
        rest = record {
          clear = record { words = rest.clear.words; gates = rest.clear.gates };
          gates = rest.gates;
        };
        room = before.regions.room;
      };
      clear = c.simulate_unit.ensures.clear;
      deltas = room.deltas ∙ before.deltas;
      waiting = (let w = before.waiting in let e = room.waiting in omega (arith, w, e));
      slots = (let s = before.slots in let e = room.slots in omega (arith, s, e));
      unit_region = record {
        known = (let k = before.unit_region.known in let e = unit.known in omega (arith, k, e));
        path = (let k = before.unit_region.path in let e = unit.path in omega (arith, k, e));
      };
      unit_classes = (let k = before.unit_classes in let e = unit.classes in omega (arith, k, e));
      unit_parts = (let k = before.unit_parts in let e = unit.followed in omega (arith, k, e));
    }

pub simulate_unit-requires-clause-full : goal.simulate_unit-requires-clause-full
simulate_unit-requires-clause-full g c =
    let u = sweep_unit (length c.args.job.now.tests.tests) c.args.span c.requires.span
    c.if-span-gt1.true in
    let full = u.0.full in
    let whole = u.0.whole in
    omega (arith, full, whole)

pub returns-then-span-gt1-clause-taken :
    goal.returns-then-span-gt1-clause-taken
returns-then-span-gt1-clause-taken g c =
    let job = c.args.job.now in
    let rows = c.args.rows.now in
    let end = c.simulate_unit.result in
    let last = c.simulate_unit.new.kept in
    let group = c.args.span.first / 2 in
    let wants = g.G.Goal.wants c.args.goal.now in
    let means = g.G.Goal.means c.args.goal.now in
    let here = unit_is (length job.tests.tests) c.args.span c.requires.span
    c.if-span-gt1.true in
    subst (λ s. HaveTaken means job s rows c.args.from end c.args.kept.now last) (sym here)
    (all_taken wants means job (unit_span group) rows c.args.from end c.args.kept.now last
    (omega arith) (λ one off hits low high more le was.
    g.G.Goal.stays c.args.goal.now one hits low high more off le was)
    c.requires.places c.simulate_unit.ensures.closed c.simulate_unit.ensures.taken)

-- the span has blocks of one group
is_span : (g : _) (c : Else-span-gt1 g)
    → IsSpan (length c.args.job.now.tests.tests) c.args.span
is_span g c = sweep_span (length c.args.job.now.tests.tests) c.args.span c.requires.span
    (omega (arith, c.if-span-gt1.false))

pub view_of-view-requires : goal.view_of-view-requires
view_of-view-requires g c = is_span g (goal.at.view_of-view-requires g c).Else-span-gt1

pub gather_regions-end-requires-clause-span : goal.gather_regions-end-requires-clause-span
gather_regions-end-requires-clause-span g c =
    is_span g (goal.at.gather_regions-end-requires-clause-span g c).Else-span-gt1

pub flip_all-requires-clause-span : goal.flip_all-requires-clause-span
flip_all-requires-clause-span g c =
    is_span g (goal.at.flip_all-requires-clause-span g c).Else-span-gt1

pub gather_regions-end-requires-clause-room : goal.gather_regions-end-requires-clause-room
gather_regions-end-requires-clause-room g c =
    let served = subst (λ v. ServesRegions v c.args.job.now (length c.args.rows.now))
    (sym c.self.view_is) c.requires.serves in
    room_at_rest c.args.job.now c.self.inside.changes
    c.tests-tests.ensures.together.circuit.well_formed c.self.invariant.regions.rest served.room

pub gather_regions-end-requires-clause-regions : goal.gather_regions-end-requires-clause-regions
gather_regions-end-requires-clause-regions g c =
    let served = subst (λ v. ServesRegions v c.args.job.now (length c.args.rows.now))
    (sym c.self.view_is) c.requires.serves in
    let many = served.room in
    let own = c.self.invariant.regions.room in
    record {
      known = (let k = own.known in omega (arith, many, k));
      path = (let k = own.path in omega (arith, many, k));
    }

pub gather_regions-end-requires-clause-slots : goal.gather_regions-end-requires-clause-slots
gather_regions-end-requires-clause-slots g c =
    let eight = c.self.invariant.slots in elim c.stems_at_once-room.ensures [
      | inl x ↦ let is = x.0 in (omega (arith, is), omega (arith, is, eight))
      | inr is ↦ (omega (arith, is), omega (arith, is, eight))
    ]

pub flip_all-requires-clause-places : goal.flip_all-requires-clause-places
flip_all-requires-clause-places g c = λ one there.
    let own = c.gather_regions-end.ensures.gathered.at one
    (subst (λ l. Contains l one) c.as_slice-all.ensures.value there) in
    let low = own.1 in
    let within = c.gather_regions-end.ensures.within in
    let kept = c.gather_regions-end.ensures.places in
    omega (arith, low, within, kept, c.requires.places)

pub flip_all-requires-clause-ordered : goal.flip_all-requires-clause-ordered
flip_all-requires-clause-ordered g c =
    subst AreInOrder (sym c.as_slice-all.ensures.value)
    c.gather_regions-end.ensures.gathered.ordered

pub flip_all-requires-clause-room : goal.flip_all-requires-clause-room
flip_all-requires-clause-room g c =
    let circuit = c.args.job.now.circuit in
    let there = c.view_of-view.result.circuit.now.arranged in
    let view = c.view_of-view.ensures in
    let served = subst (λ v. ServesRegions v c.args.job.now (length c.args.rows.now))
    (sym c.self.view_is) c.requires.serves in
    let many = served.room in
    let deltas = c.self.invariant.deltas in
    let waiting = c.self.invariant.waiting in
    let same = count_there circuit there view.together.circuit.well_formed view.arranged in
    record {
      deltas = omega (arith, many, deltas, same);
      gates = omega (arith, many, waiting, same);
    }

pub flip_all-requires-clause-clear : goal.flip_all-requires-clause-clear
flip_all-requires-clause-clear g c = record {
  deltas = c.self.invariant.clear.deltas;
  gates = c.self.invariant.clear.gates;
}

pub flip_all-requires-clause-few : goal.flip_all-requires-clause-few
flip_all-requires-clause-few g c =
    let few = c.gather_regions-end.ensures.few in elim c.stems_at_once-room.ensures [
      | inl x ↦ let is = x.0 in inr (omega (arith, is, few), x.1)
      | inr is ↦ inl (omega (arith, is, few))
    ]

pub flip_all-requires-clause-slots : goal.flip_all-requires-clause-slots
flip_all-requires-clause-slots g c =
    subst (λ l. All (IsWithin l) c.gather_regions-end.new.stems.items) (sym
    c.as_slice-all.ensures.value)
    (all_slots (IsWithin c.gather_regions-end.new.followed.items)
    c.gather_regions-end.new.stems.items
    (λ slot there. (c.gather_regions-end.ensures.gathered.each slot there).within))

pub flip_all-requires-clause-stems : goal.flip_all-requires-clause-stems
flip_all-requires-clause-stems g c =
    all_slots (IsHiddenStem c.view_of-view.result.circuit.now.arranged)
    c.gather_regions-end.new.stems.items
    (λ slot there. (c.gather_regions-end.ensures.gathered.each slot there).hidden)

-- what is no longer wanted stays
closed_all : (g : _) (c : After-flip_all g)
    → KeepsClosed (g.G.Goal.wants c.args.goal.now) c.args.kept.now c.flip_all.new.kept
closed_all g c = λ place one is off.
    let wants = g.G.Goal.wants c.args.goal.now in
    let all = c.as_slice-all.ensures.value in
    let none : IsFollowedAt c.as_slice-all.result.now place → ⊥ = λ h.
    let idle = c.gather_regions-end.ensures.gathered.idle h.0 (subst (λ l. Contains l h.0) all h.1)
    in
    let both : Some one ≡ Some idle.0 = sym is ∙ (ap (slice_get c.args.kept.now) (sym h.2) ∙ idle.1)
    in
    false≢true (sym off ∙ (ap (λ o. wants (unwrap_or o one)) both ∙ idle.2)) in
    c.flip_all.ensures.others place none ∙ c.gather_regions-end.ensures.closed place one is off

pub returns-clause-taken : goal.returns-clause-taken
returns-clause-taken g c =
    let job = c.args.job.now in
    let span = c.args.span in
    let rows = c.args.rows.now in
    let end = c.gather_regions-end.result in
    let last = c.flip_all.new.kept in
    let wants = g.G.Goal.wants c.args.goal.now in
    let means = g.G.Goal.means c.args.goal.now in
    let taken = c.flip_all.ensures.taken rows c.args.from end c.args.kept.now
    (subst (λ l. AreGathered wants means job c.view_of-view.result.circuit.now.arranged span rows
    c.args.from end c.gather_regions-end.new.stems.items l c.args.kept.now
    c.gather_regions-end.new.kept) (sym c.as_slice-all.ensures.value)
    c.gather_regions-end.ensures.gathered) in
    all_taken wants means job span rows c.args.from end c.args.kept.now last
    (in_order (length job.tests.tests) span c.requires.span)
    (λ one off hits low high more le was.
    g.G.Goal.stays c.args.goal.now one hits low high more off le was)
    c.requires.places (closed_all g (goal.at.returns-clause-taken g c).After-flip_all) taken

pub returns-clause-others : goal.returns-clause-others
returns-clause-others g c = λ place outside.
    let all = c.as_slice-all.ensures.value in
    let none : IsFollowedAt c.as_slice-all.result.now place → ⊥ = λ h.
    let own = c.gather_regions-end.ensures.gathered.at h.0 (subst (λ l. Contains l h.0) all h.1) in
    let from = own.0 in
    let to = own.1 in
    let at = h.2 in
    elim outside [
      | inl x ↦ omega (arith, x, from, at)
      | inr x ↦ omega (arith, x, to, at)
    ] in
    c.flip_all.ensures.others place none ∙ c.gather_regions-end.ensures.others place outside

pub returns-clause-closed : goal.returns-clause-closed
returns-clause-closed g c = closed_all g (goal.at.returns-clause-closed g c).After-flip_all
