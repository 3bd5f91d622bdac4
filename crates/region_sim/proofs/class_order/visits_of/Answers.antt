use Rattle.std.proofs.Common.{◌≡◌, ◌<◌, ◌+◌, ◌∙◌, All, ap, arith, get_or, length, refl, subst, sym}
use Rattle.std.proofs.lemmas.List.Elements.{All-push}
use Rattle.bench_net.specs.Scan.{names}
use Rattle.fault_model.specs.Collapse.{Collapsed}
use Rattle.region_sim.specs.ClassOrder.{AreVisitsTo}
use Rattle.region_sim.proofs.ClassOrders.{places_apart, places_low, visits_more}
use Rattle.region_sim.proofs.class_order.visits_of.Goals as goal

pub loop-class-preserved : goal.loop-class-preserved
loop-class-preserved c =
    let job = c.args.job.now in
    let places = c.places-places.result.now in
    let there = c.places-places.ensures.places in
    let well = c.classes.ensures.together.circuit.well_formed in
    let stem = c.stem_of_class.result in
    let lt = c.stem_of_class.ensures.within in
    let before = c.loop-class.visits.items in
    let was = c.loop-class.invariant in
    record {
      within = subst (All (λ visit. visit < length (names job.circuit)))
          (sym c.in_ok-push.ensures.items)
          (All-push (λ visit. visit < length (names job.circuit)) before (get_or places stem 0)
          was.within (places_low job.circuit there.0 places well there.1 there.2 stem lt));
      are = subst (AreVisitsTo job places (c.loop-class.class + 1)) (sym c.in_ok-push.ensures.items)
          (visits_more job places c.loop-class.class stem (get_or places stem 0) before was.are
          c.stem_of_class.ensures.stem lt refl);
    }

pub returns-clause-visits : goal.returns-clause-visits
returns-clause-visits c =
    let job = c.args.job.now in
    let places = c.places-places.result.now in
    let there = c.places-places.ensures.places in
    let well = c.classes.ensures.together.circuit.well_formed in
    let count = c.count-count.ensures
    ∙ ap (λ (x : Collapsed). length x.representative) c.classes.ensures.part in
    let end : c.loop-class.class ≡ length job.classes.representative = omega (
      arith,
      c.loop-class-test.false,
      c.loop-class.auto.class-end,
      count,
    ) in
    record {
      places = places;
      apart = places_apart job.circuit there.0 places well there.1 there.2;
      within = c.loop-class.invariant.within;
      are = subst (λ n. AreVisitsTo job places n c.loop-class.visits.items) end
          c.loop-class.invariant.are;
    }
