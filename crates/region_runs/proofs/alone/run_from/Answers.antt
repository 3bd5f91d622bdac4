use Rattle.std.proofs.Common.{◌≡◌, ◌∙◌, All, ap, arith, length, subst, sym}
use Rattle.std.proofs.lemmas.List.{with_items_is}
use Rattle.block_sim.specs.Listed.{IsListed}
use Rattle.region_sim.specs.ClassOrder.{classes_of}
use Rattle.region_sim.specs.OpenPlaces.{AreSuccessors}
use Rattle.region_runs.specs.StretchRuns.{AreKeptUpTo, HasEnded}
use Rattle.region_runs.specs.Tasks.{task_of}
use Rattle.region_runs.proofs.ClaimedStretches.{starts_kept}
use Rattle.region_runs.proofs.alone.run_from.Goals as goal

pub run_list-stop-requires-clause-rows : goal.run_list-stop-requires-clause-rows
run_list-stop-requires-clause-rows g c =
    subst (All (IsListed c.args.job.now)) (sym c.as_slice-listed.ensures.value)
    c.in_ok-rows.ensures.each

pub run_list-stop-requires-clause-none : goal.run_list-stop-requires-clause-none
run_list-stop-requires-clause-none g c =
    let goal = c.args.goal.now in
    let from = c.args.from in
    let own = c.args.classes.now in
    let task = task_of c.args.job.now from (g.A.Goal.wants goal) (g.A.Goal.means goal) in
    let sized = c.in_ok-kept.kept.ok.0 in
    let same : classes_of c.as_slice-listed.result.now ≡ own =
    ap classes_of c.as_slice-listed.ensures.value ∙ c.in_ok-rows.ensures.same in
    subst (λ l. AreKeptUpTo task l 0 from c.as_mut_slice-found.result.now) (sym same)
    (subst (AreKeptUpTo task own 0 from) (sym c.as_mut_slice-found.ensures.value)
    (starts_kept task own c.in_ok-kept.kept.items
    (omega (arith, sized, c.in_ok-kept.ensures.count)) c.in_ok-kept.ensures.first))

pub run_list-stop-requires-clause-next : goal.run_list-stop-requires-clause-next
run_list-stop-requires-clause-next g c =
    subst AreSuccessors (sym c.as_mut_slice-next.ensures.value) c.in_ok-open.ensures.next

pub returns-clause-ended : goal.returns-clause-ended
returns-clause-ended g c =
    let goal = c.args.goal.now in
    let task = task_of c.args.job.now c.args.from (g.A.Goal.wants goal) (g.A.Goal.means goal) in
    let stop = c.run_list-stop.result in
    let found = c.run_list-stop.new.kept in
    let stops = g.G.Gate.stops c.args.gate.now in
    let whole : length found ≡ c.in_ok-kept.kept.len =
    omega (arith, c.run_list-stop.auto.kept, c.as_mut_slice-found.ensures.len) in
    let same : classes_of c.as_slice-listed.result.now ≡ c.args.classes.now =
    ap classes_of c.as_slice-listed.ensures.value ∙ c.in_ok-rows.ensures.same in
    subst (HasEnded task c.args.classes.now c.args.worker stops stop)
    (sym (with_items_is c.in_ok-kept.kept found whole))
    (subst (λ l. HasEnded task l c.args.worker stops stop found) same
    c.run_list-stop.ensures.ended)
