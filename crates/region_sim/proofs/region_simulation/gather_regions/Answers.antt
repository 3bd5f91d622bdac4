use Rattle.std.proofs.Common.{◌∙◌, ap, arith, inl, inr, length, refl}
use Rattle.block_sim.proofs.Public.{large_enough, large_on}
use Rattle.region_sim.proofs.{PackedRegions.gathered_none, RegionHits.{closed_on, next_still}}
use Rattle.region_sim.proofs.region_simulation.gather_regions.Goals as goal

pub loop-at-init : goal.loop-at-init
loop-at-init g c = record {
  low = omega arith;
  within = omega (arith, c.requires.within);
  moved = inr c.requires.no_stem;
  few = (let none = ap length c.requires.no_stem in omega (arith, none));
  len = omega (arith, c.requires.len);
  gathered = gathered_none (g.G.Goal.wants c.args.goal.now) (g.G.Goal.means c.args.goal.now)
      c.args.job.now c.args.view.circuit.now.arranged c.args.span c.args.rows.now c.args.from
      c.args.stems.now.items c.args.followed.now.items c.args.kept.now c.requires.no_stem
      c.requires.none;
  others = λ place h. refl;
  closed = λ place one is off. refl;
  places = refl;
  classes = refl;
  slots = refl;
  room = record { overlay = refl; gates = refl };
  regions = record { known = refl; path = refl };
  clear = c.requires.clear;
}

pub add_region-at-requires-clause-room : goal.add_region-at-requires-clause-room
add_region-at-requires-clause-room g c =
    large_enough c.args.job.now.circuit c.args.changes.now c.loop-at.changes c.requires.room
    c.loop-at.invariant.room

pub add_region-at-requires-clause-places : goal.add_region-at-requires-clause-places
add_region-at-requires-clause-places g c =
    let same = c.loop-at.invariant.places in omega (arith, same, c.requires.places)

pub add_region-at-requires-clause-next : goal.add_region-at-requires-clause-next
add_region-at-requires-clause-next g c =
    let last = c.loop-at.invariant in
    next_still (g.G.Goal.wants c.args.goal.now) c.args.kept.now c.loop-at.kept c.args.next.now
    last.places last.closed c.requires.next

pub add_region-at-requires-clause-capacity : goal.add_region-at-requires-clause-capacity
add_region-at-requires-clause-capacity g c =
    let same = c.loop-at.invariant.classes in omega (arith, same, c.requires.capacity)

pub add_region-at-requires-clause-regions : goal.add_region-at-requires-clause-regions
add_region-at-requires-clause-regions g c =
    let same = c.loop-at.invariant.regions in
    let known = same.known in
    let path = same.path in
    let had = c.requires.regions in
    record {
      known = (let k = had.known in omega (arith, k, known));
      path = (let k = had.path in omega (arith, k, path));
    }

pub add_region-at-requires-clause-slots : goal.add_region-at-requires-clause-slots
add_region-at-requires-clause-slots g c =
    let len = c.as_slice-count.ensures.len in
    let same = c.loop-at.invariant.slots in
    let room = c.requires.slots.1 in
    omega (arith, len, same, room, c.if-count-room.false)

pub loop-at-smaller : goal.loop-at-smaller
loop-at-smaller g c =
    let up = c.add_region-at.ensures.low in omega (arith, up, c.loop-at-test.true)

pub loop-at-preserved : goal.loop-at-preserved
loop-at-preserved g c =
    let before = c.loop-at.invariant in
    let step = c.add_region-at.ensures in
    let low = before.low in
    let up = step.low in
    record {
      low = omega (arith, low, up);
      within = step.within;
      moved = inl (omega (arith, low, up));
      few = (let few = step.few in let whole = ap length c.as_slice-count.ensures.value in
          omega (arith, few, whole, c.if-count-room.false));
      len = step.len;
      gathered = step.gathered c.args.from c.args.kept.now low
          (λ k le. before.others k (inr le)) before.gathered;
      others = λ place h. elim h [
        | inl x ↦ step.others place (inl (omega (arith, x, low))) ∙ before.others place (inl x)
        | inr x ↦ step.others place (inr x) ∙ before.others place (inr (omega (arith, x, up)))
      ];
      closed = closed_on (g.G.Goal.wants c.args.goal.now) c.args.kept.now c.loop-at.kept
          c.add_region-at.new.kept before.closed step.closed;
      places = step.places ∙ before.places;
      classes = step.capacity.0 ∙ before.classes;
      slots = step.capacity.1 ∙ before.slots;
      room = large_on c.args.changes.now c.loop-at.changes c.add_region-at.new.changes before.room
          step.room;
      regions = (let next = step.regions in record {
        known = next.known ∙ before.regions.known;
        path = next.path ∙ before.regions.path;
      });
      clear = step.clear;
    }

pub returns-then-count-room-clause-low : goal.returns-then-count-room-clause-low
returns-then-count-room-clause-low g c = elim c.loop-at.invariant.moved [
  | inl x ↦ x
  | inr x ↦
      let none = ap length x in
      let whole = ap length c.as_slice-count.ensures.value in
      let some = c.requires.slots.0 in
      absurd (omega (arith, none, whole, some, c.if-count-room.true))
]

pub returns-clause-low : goal.returns-clause-low
returns-clause-low g c = omega (arith, c.loop-at-test.false, c.requires.within)
