use Rattle.std.proofs.Common.{◌∙◌, arith, inr, refl}
use Rattle.region_sim.proofs.RegionHits.{closed_on, next_still, taken_on}
use Rattle.region_sim.proofs.region_simulation.RegionSimulation.simulate.Goals as goal

pub loop-place-init : goal.loop-place-init
loop-place-init g c = record {
  within = omega arith;
  taken = λ place row le lt is. absurd (omega (arith, lt));
  later = λ place le. refl;
  closed = λ place one is off. refl;
  places = refl;
  serves = c.requires.serves;
}

pub simulate_region-place-requires-clause-next : goal.simulate_region-place-requires-clause-next
simulate_region-place-requires-clause-next g c =
    let last = c.loop-place.invariant in
    next_still (g.G.Goal.wants c.args.goal.now) c.args.kept.now c.loop-place.kept c.args.next.now
    last.places last.closed c.requires.next

pub loop-place-preserved : goal.loop-place-preserved
loop-place-preserved g c =
    let last = c.loop-place.invariant in
    let step = c.simulate_region-place.ensures in
    let up = step.low in
    record {
      within = step.within;
      taken = taken_on (g.G.Goal.means c.args.goal.now) c.args.job.now c.args.span c.args.rows.now
          c.loop-place.place c.simulate_region-place.result c.args.kept.now c.loop-place.kept
          c.simulate_region-place.new.kept last.taken last.later step.taken step.others;
      later = λ place le. step.others place (inr le) ∙ last.later place (omega (arith, le, up));
      closed = closed_on (g.G.Goal.wants c.args.goal.now) c.args.kept.now c.loop-place.kept
          c.simulate_region-place.new.kept last.closed step.closed;
      places = step.places ∙ last.places;
      serves = step.serves;
    }
