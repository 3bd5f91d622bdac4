use Rattle.std.proofs.Common.{◌≡◌, ◌+◌, ◌∙◌, ◌++◌, ◌∷◌, [], Some, None, length, length-append}
use Rattle.std.{proofs.Common.{arith, ap, append_assoc, subst, sym}, specs.Vec.Iter.into_iter_items}
use Rattle.region_runs.specs.StretchRuns.{IsLowest, IsLowestIn, WaitsIn, run_at, runs_from}
use Rattle.region_runs.specs.{Part.stretch_at, Tasks.task_of}
use Rattle.region_runs.proofs.{ReturnsByStretch.next_place, RunsOfStretches.{runs_push, waits_more}}
use Rattle.region_runs.proofs.list_run.lowest_waiting.Goals as goal

pub loop-place-init : goal.loop-place-init
loop-place-init g c =
    let began = c.into_iter-place-iterator.ensures.into_iter_gives in
    record {
      order = began.0;
      count = omega arith;
      left = omega (arith, began.1, c.requires.count);
      lowest = λ class block x. let bad : None ≡ Some x.1 = x.2 in absurd (cc);
    }

pub waiting_in-requires-clause-lowest : goal.waiting_in-requires-clause-lowest
waiting_in-requires-clause-lowest g c =
    let was = c.loop-place.invariant in
    let step = c.in-Some.ensures.steps in
    c.requires.lowest c.loop-place.stretch c.in-Some.place
    (next_place c.loop-place.yielded (into_iter_items c.next.new.self) c.args.table.items
    (into_iter_items c.loop-place.place-iterator) c.in-Some.place c.loop-place.stretch
    was.count was.order step.0)

pub loop-place-preserved : goal.loop-place-preserved
loop-place-preserved g c =
    let was = c.loop-place.invariant in
    let goal = c.args.goal.now in
    let task = task_of c.args.job.now c.args.cut.now.from (g.A.Goal.wants goal)
    (g.A.Goal.means goal) in
    let size = c.args.cut.now.size in
    let classes = c.args.cut.now.classes.items in
    let step = c.in-Some.ensures.steps in
    let rest = into_iter_items c.next.new.self in
    let place = c.in-Some.place in
    let order : c.loop-place.yielded ++ place ∷ rest ≡ c.args.table.items =
    ap (λ l. c.loop-place.yielded ++ l) (sym step.0) ∙ was.order in
    let run = run_at c.args.cut.now.from (stretch_at size classes (0 + length c.loop-place.yielded))
    place in
    let here : c.loop-place.stretch ≡ 0 + length c.loop-place.yielded = omega (arith, was.count) in
    let own : IsLowestIn task run c.in_ok-waiting.waiting =
    subst (λ n. IsLowestIn task (run_at c.args.cut.now.from (stretch_at size classes n) place)
    c.in_ok-waiting.waiting) here c.in_ok-waiting.ensures in
    record {
      order = append_assoc c.loop-place.yielded (place ∷ []) rest ∙ order;
      count = omega (arith, length-append c.loop-place.yielded (place ∷ []), was.count);
      left = omega (arith, was.left, step.1);
      lowest = subst (λ rs. IsLowest (WaitsIn task rs) c.lower_of-lowest.result)
          (sym (runs_push c.args.cut.now.from size classes 0 c.loop-place.yielded place))
          (waits_more task (runs_from c.args.cut.now.from size classes 0 c.loop-place.yielded) run
          c.loop-place.lowest c.in_ok-waiting.waiting c.lower_of-lowest.result was.lowest own
          c.lower_of-lowest.ensures);
    }
