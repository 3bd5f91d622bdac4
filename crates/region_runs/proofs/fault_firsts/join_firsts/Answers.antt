use Rattle.std.proofs.Common.{◌≡◌, ◌<◌, ap, arith, get_or, Global, length, rules, subst, sym}
use Rattle.std.proofs.Common.{suc, ℕ, List, Option, Vec, ◌++◌, length-append}
use Rattle.std.specs.Vec.Iter.{into_iter_items, into_iter_len}
use Rattle.region_runs.specs.FaultFirsts.{AreFirstsFrom, HasFirsts}
use Rattle.region_runs.proofs.FaultFirsts.{firsts_append, firsts_whole}
use Rattle.region_runs.proofs.fault_firsts.join_firsts.Goals.{then-start-len+in_ok-append}
use Rattle.region_runs.proofs.fault_firsts.join_firsts.Goals.{else-start-len}
use Rattle.region_runs.proofs.fault_firsts.join_firsts.Goals as goal

pub loop-share-preserved : goal.loop-share-preserved
loop-share-preserved c =
    let class_of = c.args.job.now.classes.class_of in
    let positions = c.args.ordered.now.positions.items in
    let firsts = c.args.ordered.now.firsts.items in
    let was = c.loop-share.invariant in
    let step = c.in-Some.ensures.steps in
    let next : c.in-Some.share ≡ get_or
    (into_iter_items c.loop-share.share-iterator) 0 c.in-Some.share
    = grind rules in
    let some : 0 < into_iter_len c.loop-share.share-iterator = grind rules in
    let has : HasFirsts class_of positions firsts c.in-Some.share =
    subst (HasFirsts class_of positions firsts) (sym next) (was.left 0 c.in-Some.share some) in
    let own : AreFirstsFrom class_of positions firsts c.in_ok-start.field-0.start
    c.in_ok-start.field-0.firsts.items =
    subst (HasFirsts class_of positions firsts) c.in_ok-start.was has in
    let more = c.in_ok-start.field-0.firsts.items in
    let there : AreFirstsFrom class_of positions firsts c.in_ok-start.start more =
    subst (λ n. AreFirstsFrom class_of positions firsts n more) c.in_ok-start.start-is own in
    let before = c.loop-share.all.items in
    record {
      left = λ k d lt.
          let h = was.left (suc k) d (omega (arith, lt, step.1)) in
          subst (HasFirsts class_of positions firsts) (ap (λ l. get_or l (suc k) d) step.0) h;
      firsts = elim c.if-start-len.branch [
        | then-start-len+in_ok-append w ↦
            let long : c.in_ok-start.start ≡ length before = omega (
              arith,
              w.if-start-len.true,
              c.len.ensures,
              c.loop-share.all.ok.0,
            ) in
            subst (λ (v : Vec (Option ℕ) Global).
            AreFirstsFrom class_of positions firsts 0 v.items) (sym w.all-is)
            (subst (AreFirstsFrom class_of positions firsts 0) (sym w.in_ok-append.ensures.items)
            (firsts_append class_of positions firsts before more c.in_ok-start.start was.firsts long
            there))
        | else-start-len w ↦ subst (λ (v : Vec (Option ℕ) Global).
            AreFirstsFrom class_of positions firsts 0 v.items) (sym w.all-is) was.firsts
      ];
    }

pub returns : goal.returns
returns c =
    let job = c.args.job.now in
    let positions = c.args.ordered.now.positions.items in
    let firsts = c.args.ordered.now.firsts.items in
    let before = c.loop-share.all.items in
    let rest = c.in_ok-rest.rest.items in
    let all = c.append-2.new.self.items in
    let whole : all ≡ before ++ rest = c.in_ok-append-2.ensures.items in
    let long : c.len-2.result ≡ length before = omega (
      arith,
      c.len-2.ensures,
      c.loop-share.all.ok.0,
    ) in
    firsts_whole job positions firsts all
    (subst (AreFirstsFrom job.classes.class_of positions firsts 0) (sym whole)
    (firsts_append job.classes.class_of positions firsts before rest c.len-2.result
    c.loop-share.invariant.firsts long c.in_ok-rest.ensures.firsts)) (omega (
      arith,
      ap (λ (l : List (Option ℕ)). length l) whole,
      length-append before rest,
      long,
      c.in_ok-rest.ensures.count,
      c.fault_count-count.ensures.count,
    ))
