use Rattle.std.proofs.Common.{◌∙◌, sym, subst}
use Rattle.region_runs.specs.{StretchRuns.{IsLowest, WaitsIn, runs_from}, Tasks.task_of}
use Rattle.region_runs.proofs.RunsOfStretches.{all_lowest, none_whole, stretches_wait, whole_kept}
use Rattle.region_runs.proofs.SharedStretches.{by_stretches, face_finish, finished_whole}
use Rattle.region_runs.proofs.SharedStretches.{found_by_stretch, whole_finished}
use Rattle.region_runs.proofs.list_run.gather.Goals as goal

pub joined-requires-clause-kept : goal.joined-requires-clause-kept
joined-requires-clause-kept g c =
    let all = c.in_ok-handed.ensures.shared in
    let end = face_finish _ _ _ _ _ _ _ _ c.finished.result all c.finished.ensures.finish in
    whole_kept _ _ _ _ _ _ _ (found_by_stretch _ _ _ _ c.args.workers _ _ _ _ _ c.requires.cut
    c.requires.workers.0 c.in_ok-table.ensures all)
    (finished_whole _ _ _ _ c.args.workers _ _ _ _ _ c.requires.cut c.requires.workers.0
    c.in_ok-table.ensures all (sym end ∙ c.in-Finished.is))

pub lowest_waiting-requires-clause-lowest : goal.lowest_waiting-requires-clause-lowest
lowest_waiting-requires-clause-lowest g c =
    all_lowest _ _ _ _ _ _ _ (found_by_stretch _ _ _ _ c.args.workers _ _ _ _ _ c.requires.cut
    c.requires.workers.0 c.in_ok-table.ensures c.in_ok-handed.ensures.shared)

pub unreachable-requires : goal.unreachable-requires
unreachable-requires g c =
    let task = task_of c.args.job.now c.args.cut.now.from (g.A.Goal.wants c.args.goal.now)
    (g.A.Goal.means c.args.goal.now) in
    let all = c.in_ok-handed.ensures.shared in
    let end = face_finish _ _ _ _ _ _ _ _ c.finished.result all c.finished.ensures.finish in
    let none = subst (IsLowest (WaitsIn task (runs_from c.args.cut.now.from c.args.cut.now.size
    c.args.cut.now.classes.items 0 c.in_ok-table.table.items))) c.in-None.is
    c.in_ok-class-in-Waiting.ensures in
    let whole = none_whole task _ _ _ _ _ _ (found_by_stretch _ _ _ _ c.args.workers _ _ _ _ _
    c.requires.cut c.requires.workers.0 c.in_ok-table.ensures all) c.requires.wanted none in
    let finished = whole_finished _ _ _ _ c.args.workers _ _ _ _ _ c.requires.cut
    c.requires.workers.0 c.in_ok-table.ensures all whole in
    let bad = sym c.in-Waiting.is ∙ end ∙ finished in
    absurd (cc)

pub returns-in_ok-kept-in-Finished-clause-stretches :
    goal.returns-in_ok-kept-in-Finished-clause-stretches
returns-in_ok-kept-in-Finished-clause-stretches g c =
    let all = c.in_ok-handed.ensures.shared in
    let end = face_finish _ _ _ _ _ _ _ _ c.finished.result all c.finished.ensures.finish in
    by_stretches _ _ _ c.args.workers _ _ _ c.in_ok-kept-in-Finished.kept.items _ all
    (sym end ∙ c.in-Finished.is) c.in_ok-kept-in-Finished.ensures

pub returns-in-Some-clause-refused : goal.returns-in-Some-clause-refused
returns-in-Some-clause-refused g c =
    let task = task_of c.args.job.now c.args.cut.now.from (g.A.Goal.wants c.args.goal.now)
    (g.A.Goal.means c.args.goal.now) in
    let lowest = subst (IsLowest (WaitsIn task (runs_from c.args.cut.now.from c.args.cut.now.size
    c.args.cut.now.classes.items 0 c.in_ok-table.table.items))) c.in-Some.is
    c.in_ok-class-in-Waiting.ensures in
    let waits = stretches_wait task _ _ _ _ _ _ (found_by_stretch _ _ _ _ c.args.workers _ _ _ _ _
    c.requires.cut c.requires.workers.0 c.in_ok-table.ensures c.in_ok-handed.ensures.shared) _
    c.in-Some.field-0.class c.in-Some.field-0.block c.requires.cut c.in_ok-table.ensures.count
    lowest in
    (c.requires.workers.0, c.requires.workers.1, waits.0, waits.1, waits.2, waits.3)
