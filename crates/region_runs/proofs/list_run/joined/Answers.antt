use Rattle.std.proofs.Common.{◌≡◌, ◌+◌, ◌*◌, ◌∙◌, ◌++◌, ◌∷◌, [], ap, append_assoc, arith, length}
use Rattle.std.proofs.{Common.{length-append, subst, sym, refl}, Math.Nat.zero-mul}
use Rattle.std.specs.Vec.Iter.{into_iter_items}
use Rattle.region_runs.specs.{StretchRuns.kept_at, Tasks.task_of}
use Rattle.region_runs.proofs.PartsOfClasses.{AreKeptBelow, kept_all, kept_more, kept_none}
use Rattle.region_runs.proofs.ReturnsByStretch.{next_place}
use Rattle.region_runs.proofs.list_run.joined.Goals as goal

pub loop-place-init : goal.loop-place-init
loop-place-init g c =
    let began = c.into_iter-place-iterator.ensures.into_iter_gives in
    record {
      order = began.0;
      left = omega (arith, began.1, c.requires.count);
      found = subst (λ n. AreKeptBelow (task_of c.args.job.now c.args.cut.now.from
          (g.A.Goal.wants c.args.goal.now)
          (g.A.Goal.means c.args.goal.now)) c.args.cut.now.classes.items n
          c.in_ok-kept.kept.items) (sym (zero-mul c.args.cut.now.size))
          (subst (AreKeptBelow (task_of c.args.job.now c.args.cut.now.from
          (g.A.Goal.wants c.args.goal.now)
          (g.A.Goal.means c.args.goal.now)) c.args.cut.now.classes.items 0)
          (sym c.in_ok-kept.ensures.items)
          (kept_none (task_of c.args.job.now c.args.cut.now.from (g.A.Goal.wants c.args.goal.now)
          (g.A.Goal.means c.args.goal.now)) c.args.cut.now.classes.items));
    }

pub loop-place-preserved : goal.loop-place-preserved
loop-place-preserved g c =
    let was = c.loop-place.invariant in
    let task = task_of c.args.job.now c.args.cut.now.from (g.A.Goal.wants c.args.goal.now)
    (g.A.Goal.means c.args.goal.now) in
    let size = c.args.cut.now.size in
    let classes = c.args.cut.now.classes.items in
    let yielded = c.loop-place.yielded in
    let place = c.in-Some.place in
    let step = c.in-Some.ensures.steps in
    let rest = into_iter_items c.next.new.self in
    let count : length yielded + 1 ≡ length (yielded ++ place ∷ []) =
    omega (arith, length-append yielded (place ∷ [])) in
    let own = c.requires.kept (length yielded) place
    (next_place yielded rest c.args.table.items (into_iter_items c.loop-place.place-iterator) place
    (length yielded) refl was.order step.0) in
    record {
      order = append_assoc yielded (place ∷ []) rest
          ∙ ap (λ l. yielded ++ l) (sym step.0) ∙ was.order;
      left = omega (arith, count, was.left, step.1);
      found = subst (λ n. AreKeptBelow task classes (n * size) c.in_ok-kept-2.kept.items) count
          (subst (AreKeptBelow task classes ((length yielded + 1) * size))
          (sym (c.in_ok-kept-2.ensures ∙ ap (λ l. c.loop-place.kept.items ++ l) c.kept_of.ensures))
          (kept_more task classes size (length yielded) c.loop-place.kept.items (kept_at place)
          was.found own));
    }

pub returns : goal.returns
returns g c =
    let was = c.loop-place.invariant in
    let full : length c.loop-place.yielded ≡ c.args.cut.now.stretches = omega (
      arith,
      was.left,
      c.in-None.ensures.steps.0,
    ) in
    kept_all (task_of c.args.job.now c.args.cut.now.from (g.A.Goal.wants c.args.goal.now)
    (g.A.Goal.means c.args.goal.now)) c.args.cut.now.stretches c.args.cut.now.size
    c.args.cut.now.classes.items c.loop-place.kept.items c.requires.cut
    (subst (λ n. AreKeptBelow (task_of c.args.job.now c.args.cut.now.from
    (g.A.Goal.wants c.args.goal.now)
    (g.A.Goal.means c.args.goal.now)) c.args.cut.now.classes.items (n * c.args.cut.now.size)
    c.loop-place.kept.items) full was.found)
