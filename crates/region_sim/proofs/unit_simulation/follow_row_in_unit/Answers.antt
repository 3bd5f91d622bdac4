use Rattle.std.proofs.{Common.{◌∙◌, arith, inl, inr, refl, subst, sym}, lemmas.Bool.false≢true}
use Rattle.wide_words.specs.Wide.{number}
use Rattle.flat_circuit.{specs.Readers.IsLive, proofs.Public.within_there}
use Rattle.region_sim.specs.Units.{unit_span}
use Rattle.region_sim.proofs.UnitApproaches.{takes_unit, unit_known, unit_none}
use Rattle.block_sim.proofs.Public.{dead_class}
use Rattle.region_sim.proofs.unit_simulation.follow_row_in_unit.Goals as goal

pub is_live-requires : goal.is_live-requires
is_live-requires g c =
    let view = c.requires.view in
    let lt = within_there c.args.job.now.circuit c.args.view.circuit.now.arranged
    view.together.circuit.well_formed view.arranged c.args.row.stem c.requires.row.named in
    let at = c.requires.at in
    omega (arith, at, lt)

pub returns-then-not-is_live-clause-taken : goal.returns-then-not-is_live-clause-taken
returns-then-not-is_live-clause-taken g c =
    let view = c.requires.view in
    let there = c.args.view.circuit.now.arranged in
    let job = c.args.job.now in
    let group = c.args.group in
    let all = g.G.Goal.ALL_LANES in
    let took = c.take_unit_at.ensures.taken in
    let none = dead_class job there view.together view.arranged c.args.row c.requires.row
    (λ live. false≢true (sym c.if-not-is_live.true
    ∙ c.is_live.ensures.1 (subst (IsLive there) (sym c.requires.at) live))) (unit_span group) in
    inl (
      refl,
      c.take_unit_at.ensures.places,
      c.take_unit_at.ensures.others,
      (
        took.0,
        took.1,
        took.2,
        took.3,
        takes_unit all (g.G.Goal.means c.args.goal.now) job group c.args.row.class
            (number c.none.result) took.0 took.1 took.4
            (λ hits are. unit_none job group c.args.row.class all hits are (number c.none.result)
            c.none.ensures none c.requires.full),
      ),
    )

pub returns-in-Known-clause-taken : goal.returns-in-Known-clause-taken
returns-in-Known-clause-taken g c =
    let all = g.G.Goal.ALL_LANES in
    let took = c.take_unit_at-in-Known.ensures.taken in
    inl (
      refl,
      c.take_unit_at-in-Known.ensures.places,
      c.take_unit_at-in-Known.ensures.others,
      (
        took.0,
        took.1,
        took.2,
        took.3,
        takes_unit all (g.G.Goal.means c.args.goal.now) c.args.job.now c.args.group c.args.row.class
            (number c.in-Known.lanes) took.0 took.1 took.4
            (λ hits are. unit_known c.args.job.now c.args.group c.args.row.class all hits are
            (number c.in-Known.lanes) c.in-Known.ensures.approach),
      ),
    )

pub returns-in-AtStem-clause-taken : goal.returns-in-AtStem-clause-taken
returns-in-AtStem-clause-taken g c = inr (
  refl,
  record { class = c.args.row.class; place = c.args.place; lanes = c.in-AtStem.lanes },
  refl,
  refl,
  c.in-AtStem.ensures.approach,
  c.push_reserved.ensures.items,
)

pub returns-in-Known-clause-hidden : goal.returns-in-Known-clause-hidden
returns-in-Known-clause-hidden g c = inl refl

pub returns-in-AtStem-clause-hidden : goal.returns-in-AtStem-clause-hidden
returns-in-AtStem-clause-hidden g c = inr (c.in-AtStem.ensures.hidden c.in-AtStem.lanes refl)
