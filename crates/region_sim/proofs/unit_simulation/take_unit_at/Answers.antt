use Rattle.std.proofs.Common.{◌≡◌, ◌+◌, ◌*◌, arith, refl, subst}
use Rattle.wide_words.specs.Wide.{number}
use Rattle.region_sim.proofs.{RegionHits.some_at, UnitHits.groups_more}
use Rattle.region_sim.proofs.unit_simulation.take_unit_at.Goals as goal

pub loop-slot-init : goal.loop-slot-init
loop-slot-init g c =
    let there = some_at c.args.kept.now c.args.place c.requires.place in
    record {
      count = refl;
      within = omega arith;
      others = λ other ne. refl;
      old = there.0;
      new = there.0;
      old_is = there.1;
      new_is = there.1;
      taken = λ hits low le tells so.
          let same : 128 * c.args.group ≡ 128 * (c.args.group + 0) = omega arith in
          subst (λ n. g.G.Goal.means c.args.goal.now hits low n there.0) same so;
    }

pub loop-slot-preserved : goal.loop-slot-preserved
loop-slot-preserved g c =
    groups_more g.G.Goal.ALL_LANES (g.G.Goal.means c.args.goal.now) c.args.group
    (number c.args.lanes) c.loop-slot.slot c.args.place c.part-part.result c.args.kept.now
    c.loop-slot.kept c.take_at.new.kept (omega (arith, c.loop-slot-test.true))
    c.part-part.ensures.own c.take_at.ensures.places c.take_at.ensures.others
    c.take_at.ensures.taken c.loop-slot.invariant

pub returns-clause-taken : goal.returns-clause-taken
returns-clause-taken g c =
    let last = c.loop-slot.invariant in
    let le = last.within in
    let end : c.loop-slot.slot ≡ 4 = omega (arith, le, c.loop-slot-test.false) in (
      last.old,
      last.new,
      last.old_is,
      last.new_is,
      λ hits low le_low tells so.
          let same : 128 * (c.args.group + c.loop-slot.slot) ≡ 128 * c.args.group + 512 =
          omega (arith, end) in
          subst (λ n. g.G.Goal.means c.args.goal.now hits low n last.new) same
          (last.taken hits low le_low tells so),
    )
