use Rattle.std.proofs.Common.{◌≡◌, ◌++◌, ◌∙◌, All, ap, arith, length, subst, sym}
use Rattle.patterns.specs.Tests.{TestList, blocks}
use Rattle.block_sim.specs.Listed.{IsListed}
use Rattle.region_sim.specs.ClassOrder.{classes_of}
use Rattle.region_runs.specs.BlockSweeps.{AreDeadFrom}
use Rattle.region_runs.specs.StretchRuns.{AreKeptUpTo, HasEnded}
use Rattle.region_runs.specs.Tasks.{IsSound, task_of}
use Rattle.region_runs.proofs.DeadClasses.{has_ended, live_none}
use Rattle.region_runs.proofs.stretch_run.run_list.Goals as goal

pub run_rows-stop-requires-clause-none : goal.run_rows-stop-requires-clause-none
run_rows-stop-requires-clause-none g c =
    let goal = c.args.goal.now in
    let task = task_of c.args.job.now c.args.from (g.A.Goal.wants goal) (g.A.Goal.means goal) in
    let live = c.split_at.result.0.now in
    let dead = c.split_at.result.1.now in
    live_none task live dead c.split_at_mut-found.result.0.now
    c.split_at_mut-found.result.1.now c.split_at_mut-found.ensures.front_len
    (subst (AreKeptUpTo task (classes_of (live ++ dead)) 0 c.args.from)
    c.split_at_mut-found.ensures.value
    (subst (λ l. AreKeptUpTo task (classes_of l) 0 c.args.from c.args.kept.now)
    c.split_at.ensures.by_index.0 c.requires.none))

pub returns-clause-ended : goal.returns-clause-ended
returns-clause-ended g c =
    let goal = c.args.goal.now in
    let job = c.args.job.now in
    let task = task_of job c.args.from (g.A.Goal.wants goal) (g.A.Goal.means goal) in
    let sound : IsSound task = record {
      agrees = g.A.Goal.agrees goal;
      stays = g.A.Goal.stays goal;
      unchanged = g.A.Goal.unchanged goal;
    } in
    let rows = c.args.rows.now in
    let live = c.split_at.result.0.now in
    let dead = c.split_at.result.1.now in
    let is : rows ≡ live ++ dead = c.split_at.ensures.by_index.0 in
    let found = c.run_rows-stop.new.kept in
    let rest = c.split_at_mut-found.result.1.now in
    let count = c.blocks-blocks.ensures
    ∙ ap (λ (t : TestList). blocks (length t.tests)) c.tests.ensures.part in
    subst (λ l. HasEnded task (classes_of l) c.args.worker (g.G.Gate.stops c.args.gate.now)
    c.run_rows-stop.result (found ++ rest)) (sym is)
    (has_ended task c.tests.ensures.together live dead
    (subst (All (IsListed job)) is c.requires.rows)
    (subst (λ l. AreDeadFrom job l (length live)) is
    (subst (AreDeadFrom job rows) (sym c.split_at.ensures.front_len) c.live_end.ensures.dead))
    sound c.split_at_mut-found.result.0.now rest c.split_at_mut-found.ensures.front_len
    (subst (AreKeptUpTo task (classes_of (live ++ dead)) 0 c.args.from)
    c.split_at_mut-found.ensures.value
    (subst (λ l. AreKeptUpTo task (classes_of l) 0 c.args.from c.args.kept.now) is c.requires.none))
    c.requires.from c.args.worker (g.G.Gate.stops c.args.gate.now) c.run_rows-stop.result found
    (c.run_rows-stop.ensures.passing (c.lets_all_pass.ensures c.if-not-lets_all_pass.false))
    c.run_rows-stop.ensures.ended
    (λ block up lt. c.ask_dead.ensures block up (omega (arith, lt, count))))
