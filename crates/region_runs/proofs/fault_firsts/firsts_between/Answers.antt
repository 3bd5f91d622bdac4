use Rattle.std.proofs.Common.{◌<◌, ◌++◌, ◌∙◌, ◌∷◌, [], ap, arith, get_or, length, map, subst, sym}
use Rattle.std.{proofs.Common.{take, ℕ, List, Option}, specs.Prelude.slice_get}
use Rattle.std.proofs.lemmas.List.{length_push}
use Rattle.fault_model.specs.Collapse.{Collapsed}
use Rattle.region_runs.specs.FaultFirsts.{AreFirstsFrom, first_at}
use Rattle.region_runs.proofs.FaultFirsts.{class_served, follow_more}
use Rattle.region_runs.proofs.fault_firsts.firsts_between.Goals as goal

pub first_at-requires-clause-class : goal.first_at-requires-clause-class
first_at-requires-clause-class c =
    let job = c.args.job.now in
    let class = c.class_of.result in
    let at = ap (λ (x : Collapsed). slice_get x.class_of c.loop-fault.fault)
    (sym c.classes-classes.ensures.part) ∙ c.class_of.ensures in
    let served = class_served job c.args.ordered.now.positions.items
    c.args.ordered.now.firsts.items c.requires.serves c.loop-fault.fault class at in
    subst (λ (l : List ℕ). class < length l) (sym c.as_slice-positions.ensures.value) served.0

pub first_at-requires-clause-position : goal.first_at-requires-clause-position
first_at-requires-clause-position c =
    let job = c.args.job.now in
    let class = c.class_of.result in
    let positions = c.args.ordered.now.positions.items in
    let at = ap (λ (x : Collapsed). slice_get x.class_of c.loop-fault.fault)
    (sym c.classes-classes.ensures.part) ∙ c.class_of.ensures in
    let served = class_served job positions c.args.ordered.now.firsts.items c.requires.serves
    c.loop-fault.fault class at in
    subst (λ (l : List ℕ). get_or l class 0 < length c.as_slice-firsts.result.now)
    (sym c.as_slice-positions.ensures.value)
    (subst (λ (l : List (Option ℕ)). get_or positions class 0 < length l)
    (sym c.as_slice-firsts.ensures.value) served.1)

pub loop-fault-preserved : goal.loop-fault-preserved
loop-fault-preserved c =
    let class_of = c.args.job.now.classes.class_of in
    let positions = c.as_slice-positions.result.now in
    let firsts = c.as_slice-firsts.result.now in
    let start = c.args.start in
    let fault = c.loop-fault.fault in
    let found = c.loop-fault.found.items in
    let before = map (first_at positions firsts) (take start class_of) in
    let at = ap (λ (x : Collapsed). slice_get x.class_of fault)
    (sym c.classes-classes.ensures.part) ∙ c.class_of.ensures in
    record {
      count = omega (
        arith,
        ap length c.in_ok-push.ensures.items,
        length_push found c.first_at.result,
        c.loop-fault.invariant.count,
      );
      follow = ap (λ l. before ++ l) (c.in_ok-push.ensures.items
          ∙ ap (λ x. found ++ x ∷ []) c.first_at.ensures)
          ∙ follow_more class_of positions firsts start fault c.class_of.result found
          c.loop-fault.invariant.count c.loop-fault.invariant.follow at;
    }

pub returns-clause-firsts : goal.returns-clause-firsts
returns-clause-firsts c =
    let class_of = c.args.job.now.classes.class_of in
    let positions = c.as_slice-positions.result.now in
    let firsts = c.as_slice-firsts.result.now in
    let start = c.args.start in
    let found = c.loop-fault.found.items in
    let was = c.loop-fault.invariant in
    subst (λ (l : List ℕ). AreFirstsFrom class_of l c.args.ordered.now.firsts.items start found)
    c.as_slice-positions.ensures.value
    (subst (λ (l : List (Option ℕ)). AreFirstsFrom class_of positions l start found)
    c.as_slice-firsts.ensures.value (record {
      within = omega (
        arith,
        was.count,
        c.loop-fault.auto.fault-end,
        c.requires.order,
        c.requires.end,
      );
      follow = was.follow
          ∙ ap (λ n. map (first_at positions firsts) (take n class_of)) (sym was.count);
    }))
