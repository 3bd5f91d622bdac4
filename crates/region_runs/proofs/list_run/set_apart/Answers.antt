use Rattle.std.specs.{Prelude.Ok, Vec.Iter.into_iter_items}
use Rattle.std.proofs.Common.{◌∙◌, ◌++◌, ◌∷◌, [], sym, ap, append_assoc, refl, subst}
use Rattle.region_runs.{specs.Stretches.AreApart, proofs.ReturnsByStretch.{apart_more, apart_none}}
use Rattle.region_runs.proofs.list_run.set_apart.Goals as goal

pub loop-one-init : goal.loop-one-init
loop-one-init g c = record {
  order = c.into_iter-one-iterator.ensures.into_iter_gives.0;
  apart = subst (λ l. AreApart [] l c.in_ok-dones.dones.items) (sym c.in_ok-seats.ensures.items)
      (subst (AreApart [] []) (sym c.in_ok-dones.ensures.items) apart_none);
}

pub loop-one-preserved : goal.loop-one-preserved
loop-one-preserved g c = record {
  order = append_assoc c.loop-one.yielded (c.in-Some.one ∷ []) (into_iter_items c.next.new.self)
      ∙ ap (λ l. c.loop-one.yielded ++ l) (sym c.in-Some.ensures.steps.0)
      ∙ c.loop-one.invariant.order;
  apart =
      let was = c.loop-one.invariant.apart in
      let served = c.in_ok-served.served in
      let back = c.loop-one.yielded ++ Ok served ∷ [] in
      subst (λ r. AreApart (c.loop-one.yielded ++ r ∷ []) c.push.new.self.items
      c.push-in-loop-one.new.self.items) (sym c.in_ok-served.was)
      (subst (λ l. AreApart back l c.push-in-loop-one.new.self.items)
      (sym c.in_ok-push.ensures.items)
      (subst (λ l. AreApart back (c.loop-one.seats.items ++ served.seat ∷ []) l)
      (sym c.in_ok-push-2.ensures.items)
      (apart_more c.loop-one.yielded c.loop-one.seats.items c.loop-one.dones.items
      served served.dones refl was)));
}
