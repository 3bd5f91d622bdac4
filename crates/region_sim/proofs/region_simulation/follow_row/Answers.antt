use Rattle.std.proofs.Common.{inl, inr, refl, subst}
use Rattle.region_sim.{specs.Arrivals.HasArrived, proofs.SpanHits.{takes_span, tells_known}}
use Rattle.region_sim.proofs.region_simulation.follow_row.Goals as goal

pub returns-in-Known-clause-taken : goal.returns-in-Known-clause-taken
returns-in-Known-clause-taken g c =
    let took = c.take_at.ensures.taken in
    let all = g.G.Goal.ALL_LANES in
    inl (
      refl,
      c.take_at.ensures.places,
      c.take_at.ensures.others,
      (
        took.0,
        took.1,
        took.2,
        took.3,
        takes_span all (g.G.Goal.means c.args.goal.now) c.args.job.now c.args.span c.args.row.class
            c.in-Known.word took.0 took.1 took.4
            (λ hits are. tells_known c.args.job.now c.args.span c.args.row.class c.requires.span all
            hits are c.in-Known.word c.in-Known.ensures.approach),
      ),
    )

pub returns-in-Stem-clause-taken : goal.returns-in-Stem-clause-taken
returns-in-Stem-clause-taken g c =
    let row = c.args.row in
    let at = c.in-Stem.at in
    inr (
      refl,
      record { class = row.class; place = c.args.place; lanes = at.lanes },
      refl,
      refl,
      subst (λ s. HasArrived c.args.job.now c.args.span s row.class at.lanes)
          (c.in-Stem.ensures.stem at refl) c.in-Stem.ensures.approach.1,
      c.push_reserved.ensures.items,
    )

pub returns-in-Known-clause-hidden : goal.returns-in-Known-clause-hidden
returns-in-Known-clause-hidden g c = inl refl

pub returns-in-Stem-clause-hidden : goal.returns-in-Stem-clause-hidden
returns-in-Stem-clause-hidden g c = inr (c.in-Stem.ensures.hidden c.in-Stem.at refl)
