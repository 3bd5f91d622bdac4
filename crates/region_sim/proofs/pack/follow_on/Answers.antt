use Rattle.std.proofs.Common.{◌≡◌, ◌∙◌, ◌||◌, Bool, true, false, ap, refl, sym}
use Rattle.wide_words.specs.Wide.{number}
use Rattle.flat_circuit.{specs.Words.lane, proofs.Public.{lane_or, lane_zero}}
use Rattle.region_sim.proofs.PackKept.{kept_hit, kept_narrow}
use Rattle.region_sim.proofs.pack.follow_on.Goals as goal

pub returns-then-is_none-clause-seen : goal.returns-then-is_none-clause-seen
returns-then-is_none-clause-seen g c = λ k lt. with_none (lane (number c.args.found.seen) k)
    ∙ ap (λ b. lane (number c.args.found.seen) k || b) (sym (lane_zero k)
    ∙ ap (λ w. lane w k) (sym (c.is_none.ensures.0 c.if-is_none.true)))
  where
    with_none : (b : Bool) → b ≡ (b || false)
    with_none true = refl
    with_none false = refl

pub returns-then-ALL_LANES-clause-seen : goal.returns-then-ALL_LANES-clause-seen
returns-then-ALL_LANES-clause-seen g c = λ k lt.
    ap (λ w. lane w k) c.or-seen.ensures ∙ lane_or (number c.args.found.seen) (number c.args.fresh)
    k

pub returns-clause-seen : goal.returns-clause-seen
returns-clause-seen g c = λ k lt.
    ap (λ w. lane w k) c.or-seen.ensures ∙ lane_or (number c.args.found.seen) (number c.args.fresh)
    k

pub returns-clause-narrow : goal.returns-clause-narrow
returns-clause-narrow g c = kept_narrow g.C.Copies.layout g.C.Copies.sized c.args.stems.now
    c.args.followed.now (number c.args.found.kept) (number c.args.fresh) (number c.or-seen.result)
    (number c.kept_after-kept.result) c.kept_after-kept.ensures

pub returns-clause-rest : goal.returns-clause-rest
returns-clause-rest g c = λ k lt was off. (
  sym c.ALL_LANES.ensures ∙ c.if-ALL_LANES.false,
  kept_hit g.C.Copies.layout g.C.Copies.sized c.args.stems.now c.args.followed.now
      (number c.args.found.kept) (number c.args.fresh) (number c.or-seen.result)
      (number c.kept_after-kept.result) c.kept_after-kept.ensures k lt was off,
)
