use Rattle.std.proofs.Common.{◌≡◌, ◌∙◌, ap, arith, length, refl, subst, sym}
use Rattle.std.specs.Prelude.{Some, slice_get}
use Rattle.std.proofs.lemmas.Option.{slice_get-get_or}
use Rattle.patterns.specs.Tests.{TestList, blocks}
use Rattle.region_runs.specs.StretchRuns.{IsLowest, IsOpenBelow}
use Rattle.region_runs.specs.Tasks.{IsSound, task_of}
use Rattle.region_runs.proofs.StretchRuns.{open_closed, open_more, open_past}
use Rattle.region_runs.proofs.stretch_run.lowest_open.Goals as goal

pub loop-place-preserved-then-not-is_open : goal.loop-place-preserved-then-not-is_open
loop-place-preserved-then-not-is_open g c =
    let goal = c.args.goal.now in
    let task = task_of c.args.job.now c.args.from (g.A.Goal.wants goal) (g.A.Goal.means goal) in
    let kept = c.args.kept.now in
    let place = c.loop-place.place in
    let one = c.index-kept-place.result in
    let here : slice_get kept place ≡ Some one =
    slice_get-get_or kept place one (omega (arith, c.requires.found.count, c.loop-place-test.true))
    ∙ ap Some (sym c.index-kept-place.is) in
    open_closed task c.args.classes.now c.args.stop place kept one c.loop-place.lowest
    c.tests.ensures.together c.requires.classes c.requires.found here
    (sym c.is_open.ensures ∙ c.if-not-is_open.true) c.loop-place.invariant

pub loop-place-preserved-then-block-blocks : goal.loop-place-preserved-then-block-blocks
loop-place-preserved-then-block-blocks g c =
    let goal = c.args.goal.now in
    let n = c.blocks-blocks.ensures
    ∙ ap (λ (t : TestList). blocks (length t.tests)) c.tests.ensures.part in
    open_past (task_of c.args.job.now c.args.from (g.A.Goal.wants goal) (g.A.Goal.means goal))
    c.args.classes.now c.args.stop c.loop-place.place c.done_before-block.result
    c.loop-place.lowest c.done_before-block.ensures
    (omega (arith, n, c.if-block-blocks.true)) c.loop-place.invariant

pub loop-place-preserved : goal.loop-place-preserved
loop-place-preserved g c =
    let goal = c.args.goal.now in
    let task = task_of c.args.job.now c.args.from (g.A.Goal.wants goal) (g.A.Goal.means goal) in
    let sound : IsSound task = record {
      agrees = g.A.Goal.agrees goal;
      stays = g.A.Goal.stays goal;
      unchanged = g.A.Goal.unchanged goal;
    } in
    let kept = c.args.kept.now in
    let place = c.loop-place.place in
    let one = c.index-kept-place.result in
    let here : slice_get kept place ≡ Some one =
    slice_get-get_or kept place one (omega (arith, c.requires.found.count, c.loop-place-test.true))
    ∙ ap Some (sym c.index-kept-place.is) in
    let n = c.blocks-blocks.ensures
    ∙ ap (λ (t : TestList). blocks (length t.tests)) c.tests.ensures.part in
    open_more task sound c.args.classes.now c.args.stop place c.class_at-class.result
    c.done_before-block.result kept one _ c.loop-place.lowest c.lower_of-lowest.result
    c.requires.found c.class_at-class.ensures here
    (sym c.is_open.ensures ∙ c.if-not-is_open.false) c.done_before-block.ensures
    (omega (arith, n, c.if-block-blocks.false)) refl refl c.lower_of-lowest.ensures
    c.loop-place.invariant

pub returns : goal.returns
returns g c =
    let goal = c.args.goal.now in
    let task = task_of c.args.job.now c.args.from (g.A.Goal.wants goal) (g.A.Goal.means goal) in
    subst (λ n. IsLowest (IsOpenBelow task c.args.classes.now c.args.stop n) c.loop-place.lowest)
    (omega (arith, c.loop-place-test.false, c.loop-place.auto)) c.loop-place.invariant
