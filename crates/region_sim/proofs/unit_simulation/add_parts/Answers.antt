use Rattle.std.proofs.Common.{◌≡◌, ◌+◌, ◌∙◌, ap, arith, inl, inr, refl, subst, sym}
use Rattle.std.{specs.Prelude.{Some, slice_get}, proofs.lemmas.Bool.cases_eq}
use Rattle.std.proofs.lemmas.Option.{slice_get_within}
use Rattle.block_sim.specs.declared.propagation.Followed.{Followed}
use Rattle.flat_circuit.proofs.Public.{index_of}
use Rattle.region_sim.proofs.RegionHits.{place_of_member, some_at}
use Rattle.region_sim.proofs.UnitParts.{ArePartsOf, parts_none, parts_pushed, parts_skipped}
use Rattle.region_sim.proofs.unit_simulation.add_parts.Goals as goal

pub loop-one-init : goal.loop-one-init
loop-one-init c = record {
  parts = parts_none c.args.slot c.args.classes.now c.args.followed.now.items;
  len = omega arith;
  capacity = refl;
}

pub loop-one-preserved : goal.loop-one-preserved
loop-one-preserved c =
    let classes = c.args.classes.now in
    let i = c.loop-one.one-index in
    let one = c.one-item.result in
    let there = some_at classes i c.loop-one-test.true in
    let same : one ≡ there.0 = c.one-item.is ∙ index_of classes i there.0 one there.1 in
    let at : slice_get classes i ≡ Some one = there.1 ∙ ap Some (sym same) in
    let last = c.loop-one.invariant in
    let before = c.args.followed.now.items in
    let len = last.len in
    let more = c.add_part.ensures.len in
    let lanes = c.part.result in
    let part : Followed = record { class = one.class; place = one.place; lanes = lanes } in
    record {
      parts = elim (cases_eq lanes 0) [
        | inl none ↦
            subst (ArePartsOf c.args.slot classes (i + 1) before) (sym (c.add_part.ensures.none
            none))
            (parts_skipped c.args.slot classes i before c.loop-one.followed.items last.parts one at
            lanes c.part.ensures.own none)
        | inr some ↦
            subst (ArePartsOf c.args.slot classes (i + 1) before) (sym (c.add_part.ensures.some
            some))
            (parts_pushed c.args.slot classes i before c.loop-one.followed.items last.parts one at
            lanes c.part.ensures.own part refl)
      ];
      len = omega (arith, len, more);
      capacity = c.add_part.ensures.capacity ∙ last.capacity;
    }

pub returns-clause-added : goal.returns-clause-added
returns-clause-added c =
    let classes = c.args.classes.now in
    let last = c.loop-one.invariant.parts in
    record {
      more = last.more;
      kept = last.kept;
      each = λ one k member low here on.
          let p = place_of_member classes one member in
          let lt = slice_get_within classes p.0 one p.1 in
          last.each p.0 one k (omega (arith, lt, c.loop-one-test.false)) p.1 low here on;
      only = last.only;
    }
